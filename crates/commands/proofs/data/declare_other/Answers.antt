-- The function `declare_other` meets its contract: a label command or none. Assumes nothing.
use Rattle.block.specs.Blocks.{label_step}
use Rattle.commands.specs.DataHeld.{declared}
use Rattle.commands.specs.Stepping.{answered}
use Rattle.lexer.specs.Base.{option_of}
use Rattle.lexer.specs.Stored.{word_of}
use mathlib.Core.Path.{refl, sym, ap, ◌∙◌}
use Rattle.commands.proofs.data.declare_other.Goals as goal

pub returns-in_default-clause-step : goal.returns-in_default-clause-step
unfolding label_step option_of declared word_of
returns-in_default-clause-step c =
    let known = sym c.label_word.ensures ∙ ap option_of c.in_default.is in
    λ m size. rw known (answered refl)

pub returns-clause-step : goal.returns-clause-step
unfolding option_of
returns-clause-step c =
    let known = sym c.label_word.ensures ∙ ap option_of c.in-Some.is in
    λ m size. rw known (c.declare_labels.ensures.step m _ _ size)

pub returns-clause-placed : goal.returns-clause-placed
returns-clause-placed c =
    λ size at p. c.declare_labels.ensures.placed _ _ size at p
