use Prim.Native.Nat.{◌+◌}
use Rattle.lexer.proofs.EndTurns.{quote-ended, quote-doubled, quote-goes-on, quote-same, quote-open}
use Rattle.lexer.proofs.ListLaws.{within-at}
use borrow.Author.Tests.{eq-eqb, ne_eqb}
use mathlib.Core.Bool.{false}
use mathlib.Core.Path.{◌≡◌, refl, sym, ◌∙◌}
use native.Mathlib.Omega.{arith}
use Rattle.lexer.proofs.scanning.quoted_end.Goals as goal

pub loop-i-init : goal.loop-i-init
loop-i-init c = record { within = omega arith; rest = refl }

pub loop-i-preserved-then-text-i-ne39 : goal.loop-i-preserved-then-text-i-ne39
loop-i-preserved-then-text-i-ne39 c =
    record {
      within = omega arith;
      rest = sym (quote-same _ _ c.loop-i.i c.loop-i-test.true (ne_eqb _ _ c.if-text-i-ne39.true)) ∙ c.loop-i.invariant.rest;
    }

pub returns-then-byte_or_zero-ne39 : goal.returns-then-byte_or_zero-ne39
returns-then-byte_or_zero-ne39 c =
    let quote = eq-eqb _ 39 c.if-text-i-ne39.false in
    sym (quote-goes-on _ _ c.loop-i.i c.loop-i-test.true false refl ∙ quote-ended _ _ (c.loop-i.i + 1) (λ e. c.if-byte_or_zero-ne39.true (c.byte_or_zero.ensures ∙ e)) _ quote) ∙ c.loop-i.invariant.rest

pub loop-i-preserved : goal.loop-i-preserved
loop-i-preserved c =
    let quote = eq-eqb _ 39 c.if-text-i-ne39.false in
    let second = sym c.byte_or_zero.ensures ∙ c.if-byte_or_zero-ne39.false in
    let inside = within-at _ _ 39 (omega arith) second in
    let two : c.loop-i.i + 1 + 1 ≡ c.loop-i.i + 2 = omega arith in
    record {
      within = omega (arith, inside);
      rest = rw two at (sym (quote-goes-on _ _ c.loop-i.i c.loop-i-test.true false refl ∙ quote-doubled _ _ (c.loop-i.i + 1) inside (eq-eqb _ _ second) _ quote) ∙ c.loop-i.invariant.rest);
    }

pub returns : goal.returns
returns c = sym (quote-open _ _ _ c.loop-i-test.false false refl) ∙ c.loop-i.invariant.rest
