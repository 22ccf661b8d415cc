-- The function `format_walk` meets its contract. A turn passes one word, and keeps what the words come to. Assumes nothing.
use Rattle.block.proofs.WalkLaws.{Walking}
use Rattle.block.specs.Commands.{words}
use Rattle.block.specs.Format.{format_turn, no_options, option}
use Rattle.block.specs.Formats.{formatting_of}
use Rattle.block.specs.Outcome.{fold}
use Rattle.lexer.specs.Stored.{range}
use Rattle.block.proofs.format_options.format_walk.Given as goal

abbrev pub invariant-loop-i : goal.invariant-loop-i
invariant-loop-i l = Walking format_turn l.text l.work l.to (fold format_turn (option no_options) (words (range l.text l.work l.from l.to))) (formatting_of l.text l.work l.mode) l.i
