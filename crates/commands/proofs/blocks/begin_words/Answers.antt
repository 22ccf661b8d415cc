-- The function `begin_words` meets its contract: a name, and no word more. Assumes nothing.
use Rattle.block.specs.Blocks.{begin_words}
use Rattle.commands.specs.StateHeld.{stepped}
use Rattle.lexer.specs.Base.{pick, bytes}
use Rattle.lexer.specs.Stored.{word_of}
use native.Mathlib.Omega.{arith}
use Rattle.commands.proofs.blocks.begin_words.Goals as goal

pub overflow_add-name : goal.overflow_add-name
overflow_add-name c = omega (arith, (c.word_ahead.ensures.some _ c.in-Some.is).within)

pub returns-in_default-clause-step : goal.returns-in_default-clause-step
unfolding begin_words stepped word_of
returns-in_default-clause-step c =
    λ m. rw (c.word_ahead.ensures.none c.in_default.is)

pub returns-in-Some-word_ahead-clause-step : goal.returns-in-Some-word_ahead-clause-step
unfolding begin_words stepped word_of
returns-in-Some-word_ahead-clause-step c =
    λ m. rw ((c.word_ahead.ensures.some _ c.in-Some.is).here, (c.word_ahead-2.ensures.some _ c.in-Some-word_ahead.is).here)

pub returns-then-is-clause-step : goal.returns-then-is-clause-step
unfolding begin_words pick bytes
returns-then-is-clause-step c =
    λ m. rw ((c.word_ahead.ensures.some _ c.in-Some.is).here, c.word_ahead-2.ensures.none c.in_default-word_ahead.is, ← c.is.ensures, c.if-is.true) (c.begin_block.ensures.step m)

pub returns-clause-step : goal.returns-clause-step
unfolding begin_words stepped pick bytes word_of
returns-clause-step c =
    λ m. rw ((c.word_ahead.ensures.some _ c.in-Some.is).here, c.word_ahead-2.ensures.none c.in_default-word_ahead.is, ← c.is.ensures, c.if-is.false)
