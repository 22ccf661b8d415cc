-- The function `read_commands` meets its contract: a turn for each command. The measure is what is left of the tokens. Assumes nothing.
use Prim.Native.Nat.{◌+◌, ◌-◌}
use Rattle.parser.proofs.CommandsWalk.{Walking}
use Rattle.parser.proofs.parse.read_commands.Given as goal

abbrev pub invariant-loop-i : goal.invariant-loop-i
invariant-loop-i l = Walking l.text l.initial.work l.count (l.header + 1) l.work l.s l.i

abbrev pub decreases-loop-i : goal.decreases-loop-i
decreases-loop-i l = l.count - l.i
