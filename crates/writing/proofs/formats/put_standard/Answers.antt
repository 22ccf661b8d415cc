-- The function `put_standard` meets its contract. Assumes nothing.
use Rattle.emit.proofs.PutLaws.{puts_then}
use Rattle.lexer.specs.Base.{bytes}
use Rattle.writing.specs.RowsPut.{form_standard}
use Rattle.writing.proofs.formats.put_standard.Goals as goal

pub returns : goal.returns
unfolding form_standard bytes
returns c =
    puts_then c.put_all-command.ensures
    (puts_then c.put-sign.ensures (puts_then c.put_gap-option.ensures (puts_then c.put_all-list.ensures (puts_then (rw c.symbols_at.ensures at c.put_all-end.ensures) c.put_all.ensures))))
