use Rattle.std.proofs.Common.{length, ◌-◌, ◌≡◌, ◌≤◌}
use Rattle.nexus.proofs.read_input.Given as goal

-- What was read lies within what was lent, which stays as long as it was.
abbrev pub invariant-loop-n : goal.invariant-loop-n
invariant-loop-n g l = (l.n ≤ length l.input) × (length l.input ≡ length l.initial.input)

-- The room that is left.
abbrev pub decreases-loop-n : goal.decreases-loop-n
decreases-loop-n g l = length l.initial.input - l.n
