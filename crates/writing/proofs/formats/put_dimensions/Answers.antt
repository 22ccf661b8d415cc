-- The function `put_dimensions` meets its contract. Assumes nothing.
use Rattle.emit.proofs.PutLaws.{puts_then}
use Rattle.lexer.specs.Base.{bytes}
use Rattle.writing.specs.RowsPut.{form_counts}
use Rattle.writing.proofs.formats.put_dimensions.Goals as goal

pub returns : goal.returns
unfolding form_counts bytes
returns c =
    puts_then c.put_all-command.ensures (puts_then c.put_decimal-rows.ensures (puts_then c.put_all-second.ensures (puts_then c.put_decimal-columns.ensures c.put_all.ensures)))
