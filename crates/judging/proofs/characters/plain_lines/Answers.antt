-- The function `plain_lines` meets its contract: neither of its words begins with the other. Assumes nothing.
use Rattle.judging.proofs.OpeningTold.{plain-told}
use Rattle.lexer.specs.Base.{bytes}
use Rattle.judging.proofs.characters.plain_lines.Goals as goal

pub returns : goal.returns
unfolding bytes
returns c = plain-told _ _ _ c.two_words.ensures
