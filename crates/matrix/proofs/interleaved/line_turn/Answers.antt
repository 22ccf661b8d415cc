-- The function `line_turn` meets its contract, test by test. Assumes nothing.
use Rattle.matrix.proofs.FaultLaws.{given-on}
use Rattle.matrix.proofs.PageShapes.{line-short, line-unnamed, line-wrong, line-counted}
use mathlib.Core.Path.{sym, ◌∙◌}
use Rattle.matrix.proofs.interleaved.line_turn.Goals as goal

pub returns-then-short_page : goal.returns-then-short_page
returns-then-short_page c = line-short _ _ _ _ _ _ _ _ _ _ (sym c.short_page.ensures ∙ c.if-short_page.true)

pub returns-in_err-line_name : goal.returns-in_err-line_name
returns-in_err-line_name c =
    rw (given-on _ c.from_residual.ensures.1) (line-unnamed _ _ _ _ _ _ _ _ _ _ (sym c.short_page.ensures ∙ c.if-short_page.false) _ c.line_name.ensures _ _ c.in_err-line_name.was)

pub returns-in_err-cells : goal.returns-in_err-cells
returns-in_err-cells c =
    rw (given-on _ c.from_residual-in_err-cells.ensures.1)
    (line-wrong _ _ _ _ _ _ _ _ _ _ (sym c.short_page.ensures ∙ c.if-short_page.false) _ c.line_name.ensures c.in_ok-line_name.was _ c.line_cells.ensures _ _ c.in_err-cells.was)

pub returns : goal.returns
returns c =
    line-counted _ _ _ _ _ _ _ _ _ _ (sym c.short_page.ensures ∙ c.if-short_page.false) _ c.line_name.ensures c.in_ok-line_name.was _ c.line_cells.ensures _ c.in_ok-cells.was _ c.line_grown.ensures
