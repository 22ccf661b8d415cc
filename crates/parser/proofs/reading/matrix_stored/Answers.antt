-- The function `matrix_stored` meets its contract. Assumes nothing.
use Rattle.std.proofs.lemmas.Result.{err_from_is_err_and}
use Rattle.parser.proofs.MatrixMade.{storing, storing-asks, storing-short, storing-done, storing-refused}
use Rattle.parser.proofs.StorableLaws.{none-there}
use mathlib.Core.Path.{sym, ◌∙◌}
use Rattle.parser.proofs.reading.matrix_stored.Goals as goal

pub returns-then-not-storable : goal.returns-then-not-storable
returns-then-not-storable c =
    λ e agreed some.
    storing-short _ _ _ _ _ c.args.s _ c.requires.0 _ c.symbols_few-few.ensures e (sym c.storable.ensures ∙ c.if-not-storable.true) _

pub matrix_reading-requires : goal.matrix_reading-requires
matrix_reading-requires c =
    storing-asks _ _ _ _ _ c.args.s 0 c.requires.0 _ c.symbols_few-few.ensures c.requires.1 c.requires.2 (sym c.storable.ensures ∙ c.if-not-storable.false)

pub returns : goal.returns
returns c =
    λ e agreed some.
    let free = none-there _ (storing _ _ _ _ _ _ (sym c.storable.ensures ∙ c.if-not-storable.false)).free in
    storing-done _ _ _ _ _ _ _ _ c.args.s _ e agreed some _ c.in_ok-lines.ensures free c.requires.0 _ _ c.with_matrix-filled.ensures.step c.in_data.ensures.step c.with_matrix-filled.ensures.placed c.in_data.ensures.placed

pub returns-in_err-lines : goal.returns-in_err-lines
returns-in_err-lines c =
    let p = err_from_is_err_and c.from_residual.result c.from_residual.ensures.1 in
    rw (p.1, p.2) (λ e agreed some. storing-refused _ _ _ _ _ _ _ _ c.args.s _ e agreed some _ _ c.in_err-lines.ensures)
