-- The function `has_ordered` meets its contract. A turn looks at one type more. Assumes nothing.
use Rattle.parser.proofs.OrderedLaws.{UnorderedYet}
use Rattle.parser.proofs.finish.has_ordered.Given as goal

abbrev pub invariant-loop-k : goal.invariant-loop-k
invariant-loop-k l = UnorderedYet l.work l.at l.characters l.default l.k
