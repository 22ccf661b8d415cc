-- The function `declare_labels` meets its contract: a kind that is held, one for which no place is left, and one more. Assumes nothing.
use Rattle.block.specs.Blocks.{label_step}
use Rattle.commands.proofs.LabelKindLaws.{commands-more, kinds-room}
use Rattle.commands.specs.DataHeld.{declared}
use Rattle.commands.specs.StateHeld.{data_of}
use Rattle.commands.specs.Stepping.{answered, short}
use Rattle.lexer.specs.Base.{pick}
use Rattle.lexer.specs.Stored.{word_of}
use mathlib.Core.Path.{refl, sym, ◌∙◌}
use native.Mathlib.Omega.{arith}
use Rattle.commands.proofs.data.declare_labels.Goals as goal

pub returns-then-labelled_by-clause-step : goal.returns-then-labelled_by-clause-step
unfolding label_step data_of declared word_of pick
returns-then-labelled_by-clause-step c =
    λ m text work size. answered (rw (← c.labelled_by.ensures text work, c.if-labelled_by.true))

pub returns-then-d-gt2-clause-step : goal.returns-then-d-gt2-clause-step
unfolding declared
returns-then-d-gt2-clause-step c =
    λ m text work size. short refl (λ p. let few = kinds-room _ _ (sym (c.labelled_by.ensures text work) ∙ c.if-labelled_by.false) in omega (arith, few, p.kinds))

pub returns-clause-step : goal.returns-clause-step
unfolding label_step data_of declared word_of pick
returns-clause-step c =
    λ m text work size. answered (rw (← c.labelled_by.ensures text work, c.if-labelled_by.false, c.more_labels.ensures.held text work))

pub returns-clause-placed : goal.returns-clause-placed
returns-clause-placed c =
    λ text front size at p. record { style = p.style; names = p.names; labels = commands-more _ _ _ _ _ _ _ _ c.more_labels.ensures (sym (c.labelled_by.ensures text front) ∙ c.if-labelled_by.false) at p.labels; matrix = p.matrix; untyped = p.untyped }
