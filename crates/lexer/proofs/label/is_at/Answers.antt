-- The function `is_at` meets its contract: only a word is a keyword, and it begins with the keyword's first byte. Assumes nothing.
use Rattle.lexer.proofs.FirstBytes.{key-first}
use Rattle.lexer.proofs.KindTags.{other-kind}
use Rattle.lexer.proofs.NextBytes.{front-left}
use Rattle.lexer.specs.Base.{lower}
use Rattle.lexer.specs.Lexing.{word_at}
use Rattle.lexer.specs.Words.{is, is_word}
use Rattle.lexer.specs.declared.Kind.{Kind}
use borrow.Author.Rules.{rules}
use mathlib.Core.Path.{◌≡◌, sym, ap, ◌∙◌}
use Rattle.lexer.proofs.label.is_at.Goals as goal

pub returns-then-lower : goal.returns-then-lower
returns-then-lower c =
    let first = c.lower.ensures ∙ ap lower c.byte_or_zero.ensures in
    let second = c.lower-2.ensures ∙ ap lower c.byte_or_zero-2.ensures in
    key-first _ _ _ (λ e. c.if-lower.true (first ∙ e ∙ sym second))

pub returns-then-eq : goal.returns-then-eq
unfolding is word_at is_word
returns-then-eq c =
    let text = front-left _ _ _ c.text_start.ensures in
    let word : c.kind_at.result ≡ Kind.Word = search rules in
    rw (← c.kind_at.ensures, word, ← text) c.text_is.ensures

pub returns-else-eq : goal.returns-else-eq
unfolding is word_at
returns-else-eq c =
    let other : c.kind_at.result ≡ Kind.Word → ⊥ = λ e. search rules in
    rw (c.if-eq.false, ← c.kind_at.ensures, other-kind _ other)
