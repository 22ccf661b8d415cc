-- The function `data_command` meets its contract: one command after the other. Assumes nothing.
use Rattle.block.specs.Blocks.{data_command}
use Rattle.commands.specs.StateHeld.{data_of}
use Rattle.commands.specs.Stepping.{answered}
use Rattle.lexer.specs.Base.{bytes, pick}
use Rattle.lexer.specs.Stored.{word_of}
use mathlib.Core.Path.{sym, ◌∙◌}
use Rattle.commands.proofs.data.data_command.Goals as goal

pub returns-then-is-clause-step : goal.returns-then-is-clause-step
unfolding data_command data_of pick bytes word_of
returns-then-is-clause-step c =
    λ m size other. answered (rw (← c.is.ensures, c.if-is.true) (c.declare_sizes.ensures.step m))

pub returns-then-is-clause-placed : goal.returns-then-is-clause-placed
unfolding data_command data_of pick bytes word_of
returns-then-is-clause-placed c =
    λ size at p. c.declare_sizes.ensures.placed size p

pub returns-then-is-2-clause-step : goal.returns-then-is-2-clause-step
unfolding data_command data_of pick bytes word_of
returns-then-is-2-clause-step c =
    λ m size other. answered (rw (← c.is.ensures, c.if-is.false, ← c.is-2.ensures, c.if-is-2.true) (c.declare_style.ensures.step m))

pub returns-then-is-2-clause-placed : goal.returns-then-is-2-clause-placed
unfolding data_command data_of pick bytes word_of
returns-then-is-2-clause-placed c =
    λ size at p. c.declare_style.ensures.placed size p

pub returns-then-is-3-clause-step : goal.returns-then-is-3-clause-step
unfolding data_command data_of pick bytes word_of
returns-then-is-3-clause-step c =
    let told = c.requires.1.right (sym c.is-3.ensures ∙ c.if-is-3.true) in
    λ m size other. answered (rw (← c.is.ensures, c.if-is.false, ← c.is-2.ensures, c.if-is-2.false, ← c.is-3.ensures, c.if-is-3.true) (c.declare_names.ensures.step m _ _ told))

pub returns-then-is-3-clause-placed : goal.returns-then-is-3-clause-placed
unfolding data_command data_of pick bytes word_of
returns-then-is-3-clause-placed c =
    let told = c.requires.1.right (sym c.is-3.ensures ∙ c.if-is-3.true) in
    λ size at p. c.declare_names.ensures.placed _ _ size at p

pub returns-clause-step : goal.returns-clause-step
unfolding data_command data_of pick bytes word_of
returns-clause-step c =
    λ m size other. rw (← c.is.ensures, c.if-is.false, ← c.is-2.ensures, c.if-is-2.false, ← c.is-3.ensures, c.if-is-3.false, other) (c.declare_other.ensures.step m size)
