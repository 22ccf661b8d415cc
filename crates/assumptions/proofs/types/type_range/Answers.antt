use Prim.Native.Nat.{ℕ, ◌+◌, ◌-◌, ◌≤◌, min}
use Rattle.assumptions.proofs.RangeTyped.{Ranging, Striding, striding-start, striding-past, striding-typed, striding-twice, striding-last, striding-turn}
use Rattle.assumptions.specs.TypesHeld.{type_number, unless_twice}
use Rattle.block.specs.declared.kinds.Range.{Range}
use Rattle.block.specs.declared.model.CharacterOrdering.{CharacterOrdering}
use Rattle.lexer.proofs.Basics.{or_left, or_right}
use Rattle.lexer.specs.Base.{pick}
use borrow.Author.Tests.{eqb-false, ltb-false}
use lib.Dec.{eqb, ltb}
use lib.ListN.{length, get_or, set}
use mathlib.Core.Bool.{Bool, true, false, ◌&&◌, ◌||◌}
use mathlib.Core.List.{List}
use mathlib.Core.Path.{◌≡◌, refl}
use native.Mathlib.Omega.{arith}
use Rattle.assumptions.proofs.types.type_range.Goals as goal

-- the characters up to this one are done where it was typed, for any range that the loop may be at
done-any : (o : CharacterOrdering) (r : Range) (at count : ℕ) (before : List ℕ) → at + count ≤ length before → (work after : List ℕ) (k value last : ℕ) (b : Bool) → Striding o r at count before work k → value ≡ type_number o → last ≡ min r.last count → k ≤ last → b ≡ eqb k 0 || eqb (get_or work (at + (k - 1)) 0) 0 → after ≡ pick (ltb 0 k && b) (set work (at + (k - 1)) value) work → b ≡ true → Ranging o r at count before after k
done-any o r at count before fits work after k value last b w v m l free stored t = striding-typed o r at count before fits work after k b w (rw m at l) free (rw v at stored) t

-- the next number is in reach
reach : (stride k last : ℕ) → k ≤ last → eqb stride 0 || ltb (last - k) stride ≡ false → (stride ≡ 0 → ⊥) × (k + stride ≤ last)
reach stride k last l f =
    let zero = eqb stride 0 in
    let less = ltb (last - k) stride in
    let far = ltb-false (last - k) stride (or_right zero less f) in
    (eqb-false stride 0 (or_left zero less f), omega (arith, far, l))

pub loop-k-init : goal.loop-k-init
loop-k-init c = (refl, λ o r v l s f. rw f (striding-start o r _ _ _))

pub returns-then-not-type_one : goal.returns-then-not-type_one
unfolding unless_twice pick
returns-then-not-type_one c =
    let walk = c.loop-k.invariant.1 _ _ c.type_number-value.ensures c.min-last.ensures refl refl in
    striding-twice _ _ _ _ _ c.requires _ _ _ _ walk (rw c.min-last.ensures at c.loop-k-test.true) c.type_one.ensures.free (rw c.type_number-value.ensures at c.type_one.ensures.stored) c.if-not-type_one.true

pub returns-then-stride-last : goal.returns-then-stride-last
unfolding unless_twice pick
returns-then-stride-last c =
    let walk = c.loop-k.invariant.1 _ _ c.type_number-value.ensures c.min-last.ensures refl refl in
    let d = done-any _ _ _ _ _ c.requires _ _ _ _ _ _ walk c.type_number-value.ensures c.min-last.ensures c.loop-k-test.true c.type_one.ensures.free c.type_one.ensures.stored c.if-not-type_one.false in
    record { front = d.front; typed = striding-last _ _ _ _ _ _ _ walk.from walk.on (rw c.min-last.ensures at c.loop-k-test.true) d (rw c.min-last.ensures at c.if-stride-last.true) }

pub loop-k-preserved : goal.loop-k-preserved
loop-k-preserved c =
    let walk = c.loop-k.invariant.1 _ _ c.type_number-value.ensures c.min-last.ensures refl refl in
    let h = reach _ _ _ c.loop-k-test.true c.if-stride-last.false in
    let d = done-any _ _ _ _ _ c.requires _ _ _ _ _ _ walk c.type_number-value.ensures c.min-last.ensures c.loop-k-test.true c.type_one.ensures.free c.type_one.ensures.stored c.if-not-type_one.false in (
      d.size,
      λ o r v m s f.
          let w = c.loop-k.invariant.1 o r v m s f in
          rw s (striding-turn o r _ _ _ _ _ w.from w.on (rw m at c.loop-k-test.true) (done-any o r _ _ _ c.requires _ _ _ _ _ _ w v m c.loop-k-test.true c.type_one.ensures.free c.type_one.ensures.stored c.if-not-type_one.false) (rw s at h.0) (rw (s, m) at h.1)),
    )

pub returns : goal.returns
unfolding unless_twice pick
returns c =
    let w = c.loop-k.invariant.1 _ _ c.type_number-value.ensures c.min-last.ensures refl refl in
    record { front = w.done.front; typed = striding-past _ _ _ _ _ _ _ w (rw c.min-last.ensures at c.loop-k-test.false) }
