-- The function `format_of` meets its contract. Assumes nothing.
use Rattle.parser.proofs.FormatHeld.{default-meant, given-meant}
use Rattle.parser.proofs.reading.format_of.Goals as goal

pub returns-in-None : goal.returns-in-None
returns-in-None c = λ few. default-meant _ _ _ c.in-None.is _ c.default.ensures

pub returns-in-Some : goal.returns-in-Some
returns-in-Some c = given-meant _ _ _ _ c.in-Some.is _ c.of.ensures
