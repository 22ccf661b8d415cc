-- The function `punct_at` meets its contract: another byte is not the mark. Assumes nothing.
use Rattle.lexer.proofs.Basics.{by-test, eqb_same}
use Rattle.lexer.proofs.FirstBytes.{mark-first}
use Rattle.lexer.proofs.KindTags.{kind-unmarked}
use Rattle.lexer.specs.Lexing.{word_at}
use Rattle.lexer.specs.Words.{punct, is_mark}
use Rattle.lexer.specs.declared.Kind.{Kind}
use borrow.Author.Rules.{rules}
use mathlib.Core.Path.{◌≡◌, ◌∙◌}
use Rattle.lexer.proofs.label.punct_at.Goals as goal

pub returns-then-byte_or_zero-b : goal.returns-then-byte_or_zero-b
returns-then-byte_or_zero-b c = mark-first _ _ _ (λ e. c.if-byte_or_zero-b.true (c.byte_or_zero.ensures ∙ e))

pub returns : goal.returns
unfolding punct word_at is_mark
returns c =
    by-test c.eq.result
    (λ t. let mark : c.kind_at.result ≡ Kind.Punctuation c.args.b = search rules in rw (t, ← c.kind_at.ensures, mark, eqb_same))
    (λ f. let other : c.kind_at.result ≡ Kind.Punctuation c.args.b → ⊥ = λ e. search rules in rw (f, ← c.kind_at.ensures, kind-unmarked _ _ other))
