-- The function `put_head` meets its contract. Assumes nothing.
use Rattle.emit.proofs.PutLaws.{puts-as, puts_then}
use Rattle.lexer.specs.Base.{bytes}
use Rattle.writing.proofs.FormLaws.{shape-dimensions, shape-format, shape-labels}
use Rattle.writing.specs.FormParts.{form_head}
use Rattle.writing.proofs.forms.put_head.Goals as goal

pub returns : goal.returns
unfolding form_head bytes
returns c =
    λ x of made. puts_then c.put_all-begun.ensures
    (puts_then (puts-as c.put_dimensions-counts.ensures (shape-dimensions _ _ x of))
    (puts_then (puts-as (c.put_format-format.ensures made) (shape-format _ _ x of)) (shape-labels _ _ x of c.put_labels.ensures)))
