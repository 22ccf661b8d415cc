-- The function `put_form` meets its contract. Assumes nothing.
use Rattle.emit.proofs.PutLaws.{puts_then}
use Rattle.writing.proofs.FormLaws.{shape-assumptions}
use Rattle.writing.specs.FormParts.{form_head, form_matrix}
use Rattle.writing.specs.FormPut.{form_piece}
use Rattle.writing.proofs.forms.put_form.Goals as goal

pub returns-clause-put : goal.returns-clause-put
unfolding form_piece form_head form_matrix
returns-clause-put c =
    let made = c.marks_of-marks.ensures in
    λ x of. puts_then (c.put_head-head.ensures x of made) (puts_then (c.put_matrix-matrix.ensures x of made) (shape-assumptions _ _ x of c.put_assumptions.ensures))
