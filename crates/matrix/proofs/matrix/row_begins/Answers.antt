-- The function `row_begins` meets its contract, test by test. Assumes nothing.
use Rattle.block.specs.Outcome.{outcome}
use Rattle.matrix.proofs.RowNames.{begun_all, begun-nameless, begun-twice, begun-on}
use borrow.Author.Tests.{not-true, not-false}
use mathlib.Core.Path.{sym, ◌∙◌}
use Rattle.matrix.proofs.matrix.row_begins.Goals as goal

pub returns-then-rows-taxa : goal.returns-then-rows-taxa
unfolding outcome
returns-then-rows-taxa c = begun_all _ _ _ _ _ _ c.requires.room c.if-rows-taxa.true

pub returns-then-not-named : goal.returns-then-not-named
unfolding outcome
returns-then-not-named c =
    begun-nameless _ _ _ _ _ _ c.requires.room c.if-rows-taxa.false (sym c.named.ensures ∙ not-true _ c.if-not-named.true-raw)

pub returns-then-known_row : goal.returns-then-known_row
unfolding outcome
returns-then-known_row c =
    let name = sym c.named.ensures ∙ not-false _ c.if-not-named.false-raw in
    begun-twice _ _ _ _ _ _ c.requires.room c.if-rows-taxa.false name (sym c.known_row.ensures ∙ c.if-known_row.true)

pub returns : goal.returns
unfolding outcome
returns c =
    let name = sym c.named.ensures ∙ not-false _ c.if-not-named.false-raw in
    begun-on _ _ _ _ _ _ c.requires.room c.if-rows-taxa.false name (sym c.known_row.ensures ∙ c.if-known_row.false)
