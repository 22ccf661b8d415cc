-- The function word_eight meets its contract: it tests each of the eight bytes, in two halves. Assumes nothing.
use Rattle.lexer.proofs.WordBlocks.{word-eight}
use Rattle.lexer.proofs.scanning.word_eight.Goals as goal

pub returns : goal.returns
returns c =
    word-eight _ _ c.requires _ _ _ _ _ _ _ _ c.plain.ensures c.plain-2.ensures c.plain-3.ensures c.plain-4.ensures c.plain-5.ensures c.plain-6.ensures c.plain-7.ensures c.plain-8.ensures
