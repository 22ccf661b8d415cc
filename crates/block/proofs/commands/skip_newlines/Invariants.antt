-- The function `skip_newlines` meets its contract: a turn passes one newline. Assumes nothing.
use Rattle.block.proofs.CutLaws.{Seeking}
use Rattle.block.specs.Commands.{newline}
use mathlib.Core.Bool.{not}
use Rattle.block.proofs.commands.skip_newlines.Given as goal

abbrev pub invariant-loop-i : goal.invariant-loop-i
invariant-loop-i l = Seeking (λ w. not (newline w)) l.text l.work l.from l.to l.i
