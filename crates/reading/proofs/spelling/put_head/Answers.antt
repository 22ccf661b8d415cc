-- The function `put_head` meets its contract: its pieces, one behind another. Assumes nothing.
use Rattle.block.specs.Formats.{meant}
use Rattle.emit.proofs.PutLaws.{puts-as, puts_then}
use Rattle.lexer.specs.Base.{bytes}
use Rattle.reading.proofs.HeadPieces.{head-lines}
use Rattle.reading.proofs.spelling.put_head.Goals as goal

pub returns : goal.returns
unfolding bytes meant
returns c =
    puts-as (puts_then c.put_type-m.ensures (puts_then c.put_number-m.ensures (puts_then c.put_number-m-2.ensures (puts_then c.put_all-m.ensures (puts_then c.put_symbols-m.ensures c.put.ensures)))))
    (head-lines (meant c.args.format) c.args.taxa.0 c.args.characters.0)
