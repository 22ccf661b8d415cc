-- The function `line_name` meets its contract, test by test. Assumes nothing.
use Rattle.matrix.proofs.PageShapes.{name-none, name-twice, name_new, name-same, name-other}
use Rattle.matrix.specs.Lines.{name_at}
use borrow.Author.Tests.{not-true, not-false}
use mathlib.Core.Path.{sym, ◌∙◌}
use Rattle.matrix.proofs.interleaved.line_name.Goals as goal

pub returns-then-not-named : goal.returns-then-not-named
returns-then-not-named c = name-none _ _ _ _ _ _ (sym c.named.ensures ∙ not-true _ c.if-not-named.true-raw)

pub returns-then-known_row : goal.returns-then-known_row
returns-then-known_row c =
    name-twice _ _ _ _ _ _ (sym c.named.ensures ∙ not-false _ c.if-not-named.false-raw) c.if-page.true (sym c.known_row.ensures ∙ c.if-known_row.true)

pub returns-then-page : goal.returns-then-page
returns-then-page c =
    name_new _ _ _ _ _ _ (sym c.named.ensures ∙ not-false _ c.if-not-named.false-raw) c.if-page.true (sym c.known_row.ensures ∙ c.if-known_row.false)

pub returns-then-alike : goal.returns-then-alike
unfolding name_at
returns-then-alike c =
    name-same _ _ _ _ _ _ (sym c.named.ensures ∙ not-false _ c.if-not-named.false-raw) c.if-page.false (rw (← c.start_of.ensures) (sym c.alike.ensures ∙ c.if-alike.true))

pub returns : goal.returns
unfolding name_at
returns c =
    name-other _ _ _ _ _ _ (sym c.named.ensures ∙ not-false _ c.if-not-named.false-raw) c.if-page.false (rw (← c.start_of.ensures) (sym c.alike.ensures ∙ c.if-alike.false))
