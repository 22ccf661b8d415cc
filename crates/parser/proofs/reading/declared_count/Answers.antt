-- The function `declared_count` meets its contract. Assumes nothing.
use Rattle.parser.proofs.ShapeLaws.{count-named, count-plain, count-given, names-none, names-words}
use Rattle.parser.proofs.reading.declared_count.Goals as goal

pub returns-then-taxa-eq0 : goal.returns-then-taxa-eq0
returns-then-taxa-eq0 c = rw c.count_words.ensures (count-named _ _ (names-words _ _ _ _ _ c.in-Some.is) _ c.if-taxa-eq0.true)

pub returns-in-None : goal.returns-in-None
returns-in-None c = count-plain _ _ (names-none _ _ _ c.in-None.is)

pub returns-else-taxa-eq0 : goal.returns-else-taxa-eq0
returns-else-taxa-eq0 c = count-given _ _ (names-words _ _ _ _ _ c.in-Some.is) _ c.if-taxa-eq0.false
