-- The function `newline_at` meets its contract: LF is a newline, and besides it only CR can be. Assumes nothing.
use Rattle.lexer.proofs.Basics.{by-test}
use Rattle.lexer.proofs.FirstBytes.{line-feed, line_first}
use Rattle.lexer.proofs.KindTags.{kind-unended}
use Rattle.lexer.specs.Words.{is_line_end}
use Rattle.lexer.specs.declared.Kind.{Kind}
use borrow.Author.Rules.{rules}
use borrow.Author.Tests.{eq-eqb, ne_eqb}
use mathlib.Core.Path.{◌≡◌, sym, ◌∙◌}
use Rattle.lexer.proofs.label.newline_at.Goals as goal

pub returns-then-b-eq10 : goal.returns-then-b-eq10
returns-then-b-eq10 c = eq-eqb _ _ c.if-b-eq10.true ∙ line-feed _ _ (sym c.byte_or_zero-b.ensures ∙ c.if-b-eq10.true)

pub returns-then-b-eq13 : goal.returns-then-b-eq13
unfolding is_line_end
returns-then-b-eq13 c =
    by-test c.eq.result
    (λ t. let line : c.kind_at.result ≡ Kind.Newline = search rules in rw (t, ← c.kind_at.ensures, line))
    (λ f. let other : c.kind_at.result ≡ Kind.Newline → ⊥ = λ e. search rules in rw (f, ← c.kind_at.ensures, kind-unended _ other))

pub returns-else-b-eq13 : goal.returns-else-b-eq13
returns-else-b-eq13 c =
    ne_eqb _ _ c.if-b-eq13.false ∙ line_first _ _ (λ e. c.if-b-eq10.false (c.byte_or_zero-b.ensures ∙ e)) (λ e. c.if-b-eq13.false (c.byte_or_zero-b.ensures ∙ e))
