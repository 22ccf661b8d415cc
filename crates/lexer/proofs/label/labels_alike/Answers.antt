-- The function `labels_alike` meets its contract: two words that are told by their bytes are compared so, any others by cursors. Assumes nothing.
use Rattle.lexer.proofs.NextBytes.{front-left}
use Rattle.lexer.proofs.RunsAlike.{words-as-long, words-differ}
use Rattle.lexer.proofs.WordsTold.{stop-told}
use borrow.Author.Tests.{ne_eqb}
use mathlib.Core.Path.{◌∙◌}
use native.Mathlib.Omega.{arith}
use Rattle.lexer.proofs.label.labels_alike.Goals as goal

pub runs_alike-requires : goal.runs_alike-requires
runs_alike-requires c =
    let first = (stop-told _ _ _ c.word_stop-end.ensures c.if-a-end.true).within in
    let second = (stop-told _ _ _ c.word_stop-stop.ensures c.if-b-stop.true).within in
    (omega arith, omega arith)

pub returns-then-end-a : goal.returns-then-end-a
returns-then-end-a c =
    c.runs_alike.ensures ∙ words-as-long _ _ _ _ _ (stop-told _ _ _ c.word_stop-end.ensures c.if-a-end.true) (stop-told _ _ _ c.word_stop-stop.ensures c.if-b-stop.true) c.if-end-a.true

pub returns-else-end-a : goal.returns-else-end-a
returns-else-end-a c = ne_eqb _ _ c.if-end-a.false ∙ words-differ _ _ _ _ _ (stop-told _ _ _ c.word_stop-end.ensures c.if-a-end.true) (stop-told _ _ _ c.word_stop-stop.ensures c.if-b-stop.true) c.if-end-a.false

pub returns : goal.returns
returns c =
    let first = front-left _ _ _ c.text_start.ensures in
    let second = front-left _ _ _ c.text_start-2.ensures in
    rw (← first, ← second) c.texts_alike.ensures
