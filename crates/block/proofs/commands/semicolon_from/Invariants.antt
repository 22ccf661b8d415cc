-- The function `semicolon_from` meets its contract: a turn passes one token that is no `;`. Assumes nothing.
use Rattle.block.proofs.CutLaws.{Seeking}
use Rattle.block.specs.Commands.{semicolon}
use Rattle.block.proofs.commands.semicolon_from.Given as goal

abbrev pub invariant-loop-i : goal.invariant-loop-i
invariant-loop-i l = Seeking semicolon l.text l.work l.from l.to l.i
