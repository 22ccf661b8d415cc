-- The function `matrix_reading` meets its contract: the rows, then their order and the labels. Assumes nothing.
use Rattle.std.proofs.lemmas.Result.{err_from_is_err_and}
use Rattle.parser.proofs.MatrixStored.{rows_told, rows-refused, rows_short, labels-told, labels-refused, labels-good}
use mathlib.Core.Path.{sym, ◌∙◌}
use Rattle.parser.proofs.reading.matrix_reading.Goals as goal

pub returns-then-not-map_fits : goal.returns-then-not-map_fits
returns-then-not-map_fits c =
    let within = c.requires.2.apart in
    let t = rows_told _ _ _ _ _ _ _ _ c.args.d within _ _ _ (c.format_of-format.ensures c.requires.3) c.in_ok-lines.was c.rows_of.ensures in
    rows_short _ _ _ _ _ _ _ _ _ within _ t c.requires.1 (sym c.map_fits.ensures ∙ c.if-not-map_fits.true)

pub returns : goal.returns
returns c =
    let within = c.requires.2.apart in
    let e = c.format_of-format.ensures c.requires.3 in
    let t = rows_told _ _ _ _ _ _ _ _ c.args.d within _ _ _ e c.in_ok-lines.was c.rows_of.ensures in
    let l = labels-told _ _ _ _ _ _ _ _ _ within _ _ _ _ _ e c.states-symbols.ensures.0 c.order_labels.ensures in
    labels-good _ _ _ _ _ _ _ _ _ within _ t _ _ l c.in_ok-order_labels.was (sym c.map_fits.ensures ∙ c.if-not-map_fits.false)

pub returns-in_err-order_labels : goal.returns-in_err-order_labels
returns-in_err-order_labels c =
    let p = err_from_is_err_and c.from_residual-in_err-order_labels.result c.from_residual-in_err-order_labels.ensures.1 in
    let within = c.requires.2.apart in
    let e = c.format_of-format.ensures c.requires.3 in
    let t = rows_told _ _ _ _ _ _ _ _ c.args.d within _ _ _ e c.in_ok-lines.was c.rows_of.ensures in
    let l = labels-told _ _ _ _ _ _ _ _ _ within _ _ _ _ _ e c.states-symbols.ensures.0 c.order_labels.ensures in
    rw (p.1, p.2) (labels-refused _ _ _ _ _ _ _ _ _ within _ t _ _ l _ _ c.in_err-order_labels.was)

pub returns-in_err-lines : goal.returns-in_err-lines
returns-in_err-lines c =
    let p = err_from_is_err_and c.from_residual.result c.from_residual.ensures.1 in
    let within = c.requires.2.apart in
    let told = rows_told _ _ _ _ _ _ _ _ c.args.d within _ _ _ (c.format_of-format.ensures c.requires.3) c.in_err-lines.was c.rows_of.ensures in
    rw (p.1, p.2) (rows-refused _ _ _ _ _ _ _ _ _ within _ _ told)
