-- The function `default_ordered` meets its contract. Assumes nothing.
use Rattle.block.specs.Blocks.{is_ordered}
use Rattle.parser.proofs.OrderedLaws.{given-ordered, none-ordered}
use Rattle.parser.proofs.finish.default_ordered.Goals as goal

pub returns-in-Unordered : goal.returns-in-Unordered
unfolding is_ordered
returns-in-Unordered c = given-ordered _ _ _ c.in-Some.is c.in-Unordered.is

pub returns-in-Ordered : goal.returns-in-Ordered
unfolding is_ordered
returns-in-Ordered c = given-ordered _ _ _ c.in-Some.is c.in-Ordered.is

pub returns-in-None : goal.returns-in-None
returns-in-None c = none-ordered _ c.in-None.is
