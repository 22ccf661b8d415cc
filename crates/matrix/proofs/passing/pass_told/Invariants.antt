-- The function `pass_told` meets its contract: a turn passes what is told at once, or ends. The measure is what is left of the tokens. Assumes nothing.
use Prim.Native.Nat.{◌-◌}
use Rattle.matrix.specs.SequentialShape.{CellsPassed}
use Rattle.matrix.proofs.passing.pass_told.Given as goal

abbrev pub invariant-loop-told : goal.invariant-loop-told
invariant-loop-told l = CellsPassed l.text l.work l.codes l.to l.characters.0 l.count l.from l.passed.cells l.passed.next

abbrev pub decreases-loop-told : goal.decreases-loop-told
decreases-loop-told l = l.to - l.passed.next
