-- The function `matrix_shape` meets its contract: one test after the other. Assumes nothing.
use Rattle.commands.specs.MatrixHeld.{format_held}
use Rattle.commands.specs.StateHeld.{data_of}
use Rattle.parser.proofs.ShapeLaws.{shape-absent, shape-differs, shape-new, shape-whole}
use Rattle.parser.specs.Storing.{shape_of}
use mathlib.Core.Path.{refl, sym, ◌∙◌}
use Rattle.parser.proofs.reading.matrix_shape.Goals as goal

pub returns-then-dims-taxa : goal.returns-then-dims-taxa
unfolding shape_of data_of
returns-then-dims-taxa c = λ m head. shape-absent _ _ head _ c.declared_count-taxa.ensures c.if-dims-taxa.true

pub returns-then-not-names_agree : goal.returns-then-not-names_agree
unfolding shape_of data_of
returns-then-not-names_agree c =
    λ m head.
    shape-differs _ _ head _ c.declared_count-taxa.ensures c.if-dims-taxa.false (sym c.names_agree.ensures ∙ c.if-not-names_agree.true)

pub returns-then-dims : goal.returns-then-dims
unfolding shape_of data_of
returns-then-dims c =
    λ m head.
    shape-new _ _ head _ c.declared_count-taxa.ensures c.if-dims-taxa.false (sym c.names_agree.ensures ∙ c.if-not-names_agree.false) c.if-dims.true

pub returns : goal.returns
unfolding shape_of data_of format_held
returns c =
    λ m head.
    shape-whole _ _ head _ c.declared_count-taxa.ensures c.if-dims-taxa.false (sym c.names_agree.ensures ∙ c.if-not-names_agree.false) _ refl c.if-dims.false
