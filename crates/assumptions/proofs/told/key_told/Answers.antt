use Prim.Native.Nat.{◌+◌}
use Rattle.assumptions.proofs.KeyWords.{keyword-end, keyword-off, keyword-on, keyword-short}
use lib.ListN.{length, drop, length-drop}
use mathlib.Core.Path.{◌≡◌, sym, ◌∙◌}
use native.Mathlib.Omega.{arith}
use Rattle.assumptions.proofs.told.key_told.Goals as goal

pub returns-then-saturating_sub-keyword : goal.returns-then-saturating_sub-keyword
returns-then-saturating_sub-keyword c =
    let s = c.args in
    sym (keyword-short s.keyword.now (drop s.start s.text.now) (omega (arith, length-drop s.start s.text.now, c.saturating_sub.ensures, c.if-saturating_sub-keyword.true)))

pub returns-then-not-is_ascii_alphabetic-lower : goal.returns-then-not-is_ascii_alphabetic-lower
returns-then-not-is_ascii_alphabetic-lower c =
    let s = c.args in
    let k = c.loop-k.k in
    sym (keyword-off s.text.now s.keyword.now (s.start + k) k (omega arith) c.loop-k-test.true _ _ c.lower.ensures c.lower-in-loop-k.ensures _ (sym c.is_ascii_alphabetic.ensures.value) c.if-not-is_ascii_alphabetic-lower.true) ∙ c.loop-k.invariant.1

pub loop-k-preserved : goal.loop-k-preserved
loop-k-preserved c =
    let s = c.args in
    let k = c.loop-k.k in
    let there : s.start + k + 1 ≡ s.start + (k + 1) = omega arith in
    let next = keyword-on s.text.now s.keyword.now (s.start + k) k (omega arith) c.loop-k-test.true _ _ c.lower.ensures c.lower-in-loop-k.ensures _ (sym c.is_ascii_alphabetic.ensures.value) c.if-not-is_ascii_alphabetic-lower.false in
    (omega arith, sym (rw there at next) ∙ c.loop-k.invariant.1)

pub returns : goal.returns
returns c =
    let s = c.args in
    let all : c.loop-k.k ≡ length s.keyword.now = omega (arith, c.loop-k.invariant.0) in
    c.ends_word.ensures ∙ sym (keyword-end s.text.now s.keyword.now (s.start + length s.keyword.now) (length s.keyword.now) (omega arith) (omega arith)) ∙ rw all at c.loop-k.invariant.1
