-- The function `put_matrix` meets its contract. Assumes nothing.
use Rattle.emit.proofs.PutLaws.{puts_then}
use Rattle.lexer.specs.Base.{bytes}
use Rattle.writing.proofs.FormLaws.{shape-rows}
use Rattle.writing.specs.FormParts.{form_matrix}
use Rattle.writing.proofs.forms.put_matrix.Goals as goal

pub returns : goal.returns
unfolding form_matrix bytes
returns c =
    λ x of made. puts_then c.put_all-begun.ensures (puts_then (shape-rows _ _ x of _ (c.sign_table-signs.ensures made) c.put_rows-rows.ensures) c.put_all.ensures)
