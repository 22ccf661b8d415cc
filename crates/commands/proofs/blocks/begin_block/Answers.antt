-- The function `begin_block` meets its contract: one name after the other. Assumes nothing.
use Rattle.block.specs.Blocks.{begin_block}
use Rattle.block.specs.Outcome.{done}
use Rattle.commands.specs.StateHeld.{stepped, phase_of, state_of}
use Rattle.lexer.specs.Base.{pick, bytes}
use Rattle.lexer.specs.Stored.{word_of}
use mathlib.Core.Path.{ap}
use Rattle.commands.proofs.blocks.begin_block.Goals as goal

pub returns-then-is-clause-step : goal.returns-then-is-clause-step
unfolding begin_block pick bytes word_of state_of
returns-then-is-clause-step c =
    λ m. rw (← c.is.ensures, c.if-is.true) (c.begin_taxa.ensures.step m _ _)

pub returns-then-is-clause-placed : goal.returns-then-is-clause-placed
unfolding begin_block pick bytes word_of state_of
returns-then-is-clause-placed c =
    c.begin_taxa.ensures.placed _ _

pub returns-then-is-2-clause-step : goal.returns-then-is-2-clause-step
unfolding begin_block pick bytes word_of state_of
returns-then-is-2-clause-step c =
    λ m. rw (← c.is.ensures, c.if-is.false, ← c.is-2.ensures, ← c.is-3.ensures, c.if-is-2.true) (c.begin_data.ensures.step m _ _)

pub returns-then-is-2-clause-placed : goal.returns-then-is-2-clause-placed
unfolding begin_block pick bytes word_of state_of
returns-then-is-2-clause-placed c =
    c.begin_data.ensures.placed _ _

pub returns-then-is-3-clause-step : goal.returns-then-is-3-clause-step
unfolding begin_block pick bytes word_of state_of
returns-then-is-3-clause-step c =
    λ m. rw (← c.is.ensures, c.if-is.false, ← c.is-2.ensures, ← c.is-3.ensures, c.if-is-2.false, ← c.is-4.ensures, c.if-is-3.true) (c.begin_assumptions.ensures.step m _ _)

pub returns-then-is-3-clause-placed : goal.returns-then-is-3-clause-placed
unfolding begin_block pick bytes word_of state_of
returns-then-is-3-clause-placed c =
    c.begin_assumptions.ensures.placed _ _

pub returns-then-is-4-clause-step : goal.returns-then-is-4-clause-step
unfolding begin_block pick bytes word_of state_of stepped phase_of
returns-then-is-4-clause-step c =
    λ m. rw (← c.is.ensures, c.if-is.false, ← c.is-2.ensures, ← c.is-3.ensures, c.if-is-2.false, ← c.is-4.ensures, c.if-is-3.false, ← c.is-5.ensures, c.if-is-4.true) (ap done (c.in_phase.ensures.step m _ _))

pub returns-then-is-4-clause-placed : goal.returns-then-is-4-clause-placed
unfolding begin_block pick bytes word_of state_of stepped phase_of
returns-then-is-4-clause-placed c =
    λ size h. c.in_phase.ensures.placed _ _ size h tt

pub returns-clause-step : goal.returns-clause-step
unfolding begin_block pick bytes word_of state_of stepped
returns-clause-step c =
    λ m. rw (← c.is.ensures, c.if-is.false, ← c.is-2.ensures, ← c.is-3.ensures, c.if-is-2.false, ← c.is-4.ensures, c.if-is-3.false, ← c.is-5.ensures, c.if-is-4.false)
