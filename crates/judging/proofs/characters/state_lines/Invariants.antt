-- The function `state_lines` meets its contract: what is judged of the state labels that are left is judged of all. Assumes nothing.
use Prim.Native.Nat.{◌-◌}
use Rattle.judging.proofs.LinesTold.{StatesLeft}
use Rattle.judging.proofs.characters.state_lines.Given as goal

abbrev pub invariant-loop-state : goal.invariant-loop-state
invariant-loop-state l = StatesLeft l.source l.i l.count l.at (l.count - l._state)
