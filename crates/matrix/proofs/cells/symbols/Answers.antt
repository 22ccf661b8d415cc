-- The function `symbols` meets its contract: a word's text is judged, at once where its bytes tell it, and that of the mark `+`. Assumes nothing.
use Rattle.lexer.proofs.WordsTold.{stop-told}
use Rattle.lexer.specs.Words.{is_word}
use Rattle.matrix.proofs.CellWalk.{symbols-none, symbols-plus, symbols-told, symbols-word}
use mathlib.Core.Path.{◌≡◌, sym, ap, ◌∙◌}
use borrow.Author.Rules.{rules}
use mathlib.Core.Bool.{true, false}
use Rattle.lexer.proofs.Basics.{by-test}
use Rattle.lexer.specs.Stored.{word_of}
use Rattle.lexer.specs.Words.{punct}
use native.Mathlib.Omega.{arith}
use Rattle.matrix.proofs.cells.symbols.Goals as goal

pub run_cells-requires : goal.run_cells-requires
run_cells-requires c =
    let h = c.if-start-end.true in
    let within = (stop-told _ _ _ c.word_stop-end.ensures h).within in
    (omega arith, omega arith, omega arith)

pub returns-then-start-end : goal.returns-then-start-end
returns-then-start-end c =
    c.run_cells.ensures ∙ symbols-told _ _ _ _ _ c.start_of-start.ensures _ (stop-told _ _ _ c.word_stop-end.ensures c.if-start-end.true)

pub returns-then-matches : goal.returns-then-matches
unfolding is_word
returns-then-matches c =
    let word = ap is_word c.kind_at.ensures in
    let other : is_word c.kind_at.result ≡ false → punct 43 (word_of c.args.text.now c.args.work.now c.args.i) ≡ true = λ e. search rules in
    c.word_cells.ensures ∙ by-test (is_word c.kind_at.result) (λ e. symbols-word _ _ _ _ _ c.start_of-start.ensures (sym word ∙ e))
    (λ e. symbols-plus _ _ _ _ _ c.start_of-start.ensures (sym word ∙ e) (other e))

pub returns : goal.returns
unfolding is_word
returns c =
    let word : is_word c.kind_at.result ≡ false = search rules in
    symbols-none _ _ _ _ _ c.start_of-start.ensures (sym (ap is_word c.kind_at.ensures) ∙ word) (sym c.punct.ensures ∙ c.if-punct.false)
