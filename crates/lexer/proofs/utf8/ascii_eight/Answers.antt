-- The function ascii_eight meets its contract: the bitwise or of the eight bytes is ASCII just if each of them is. Assumes nothing.
use Rattle.lexer.proofs.AsciiRuns.{ascii-eight}
use Rattle.lexer.specs.ByteBlocks.{is_ascii}
use Rattle.lexer.proofs.utf8.ascii_eight.Goals as goal

pub returns : goal.returns
unfolding is_ascii
returns c = ascii-eight _ _ c.requires
