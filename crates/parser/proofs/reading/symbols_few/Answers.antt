-- The function `symbols_few` meets its contract. Assumes nothing.
use Rattle.parser.proofs.FormatHeld.{default-few, given-few}
use Rattle.parser.proofs.reading.symbols_few.Goals as goal

pub returns-in-None : goal.returns-in-None
returns-in-None c = default-few _ _ _ c.in-None.is

pub returns-in-Some : goal.returns-in-Some
returns-in-Some c = given-few _ _ _ _ c.in-Some.is _ c.of-format.ensures
