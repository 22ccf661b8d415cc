-- The function `few_lines` meets its contract: a turn counts one line. The measure is what is left of the tokens. Assumes nothing.
use Prim.Native.Nat.{◌-◌}
use Rattle.matrix.proofs.LineLaws.{Counting}
use Rattle.matrix.proofs.interleaved.few_lines.Given as goal

abbrev pub invariant-loop-j : goal.invariant-loop-j
invariant-loop-j l = Counting l.text l.work l.i l.to l.initial.left l.left l.j

abbrev pub decreases-loop-j : goal.decreases-loop-j
decreases-loop-j l = l.to - l.j
