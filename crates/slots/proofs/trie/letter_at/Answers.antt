-- The function `letter_at` meets its contract. Assumes nothing.
use Rattle.lexer.proofs.NextBytes.{yielded}
use Rattle.slots.proofs.LetterLaws.{letter-more, letter-last}
use Rattle.slots.proofs.trie.letter_at.Goals as goal

pub returns-in-Some : goal.returns-in-Some
returns-in-Some c = letter-more ((yielded _ _ _ c.next_byte.ensures).byte _ _ c.in-Some.is) c.letter_of.ensures

pub returns-in-None : goal.returns-in-None
returns-in-None c = letter-last ((yielded _ _ _ c.next_byte.ensures).end c.in-None.is)
