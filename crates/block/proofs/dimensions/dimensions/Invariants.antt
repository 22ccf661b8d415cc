-- The function `dimensions` meets its contract: a turn for each word. Assumes nothing.
use Rattle.block.proofs.WalkLaws.{Walking}
use Rattle.block.specs.Commands.{words}
use Rattle.block.specs.Dimensions.{dimension_turn}
use Rattle.block.specs.Outcome.{fold}
use Rattle.lexer.specs.Stored.{range}
use Rattle.block.proofs.dimensions.dimensions.Given as goal

abbrev pub invariant-loop-i : goal.invariant-loop-i
invariant-loop-i l = Walking dimension_turn l.text l.work l.to (fold dimension_turn l.initial.mode (words (range l.text l.work l.initial.i l.to))) l.mode l.i
