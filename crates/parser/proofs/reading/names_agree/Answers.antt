-- The function `names_agree` meets its contract. Assumes nothing.
use Rattle.parser.proofs.ShapeLaws.{agrees-none, agrees-named, names-none, names-words}
use Rattle.parser.proofs.reading.names_agree.Goals as goal

pub returns-in-None : goal.returns-in-None
returns-in-None c = agrees-none _ _ (names-none _ _ _ c.in-None.is)

pub returns-in-Some : goal.returns-in-Some
returns-in-Some c = rw c.count_words.ensures (agrees-named _ _ (names-words _ _ _ _ _ c.in-Some.is) _ c.ranges.taxa.fits)
