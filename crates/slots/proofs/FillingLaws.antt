-- Numbers that are kept in a table, and what a search passes. Assumes nothing.
use Prim.Native.Nat.{ℕ, ◌+◌, ◌≤◌, ◌<◌}
use Rattle.lexer.proofs.Basics.{by-test}
use Rattle.slots.specs.Filling.{Taken, Free, Kept, Cleared, Filled}
use borrow.Author.Tests.{eqb-true, eqb-false, ltb-true, ltb-false}
use lib.Dec.{eqb, ltb}
use lib.ListN.{length, get_or, take, set, length-set}
use lib.Seq.{get_or-set_same, get_or-set_other, take-set-le, take-take}
use mathlib.Core.List.{List}
use mathlib.Core.Path.{◌≡◌, refl, sym, ap, ◌∙◌}
use native.Mathlib.Omega.{arith}

-- A slot more is taken.
pub taken_more : (work : List ℕ) (from p : ℕ) → Taken work from p → (v : ℕ) → v ≡ get_or work p 0 → (v ≡ 0 → ⊥) → Taken work from (p + 1)
taken_more work from p t v is some q l m =
    by-test (eqb q p) (λ e. let same = eqb-true q p e in rw (same, ← is) (omega (arith, some))) (λ e. let other = eqb-false q p e in t q l (above other))
  where
    above : (q ≡ p → ⊥) → q < p
    above o = by-test (ltb q p) (λ e. ltb-true q p e) (λ e. let n = ltb-false q p e in absurd (o (omega arith)))

-- A number that is put at a slot that was free stands besides all that were kept.
module _ (work : List ℕ) (from end p v : ℕ) (free : Free work from end p) where
  module _ (some : 0 < v) (below : p < end) (room : p < length work) where
    set-taken : (a b : ℕ) → Taken work a b → Taken (set work p v) a b
    set-taken a b t q l m =
        by-test (eqb q p)
        (λ e. let same = eqb-true q p e in rw (same, get_or-set_same work p v 0 room) some)
        (λ e. rw (get_or-set_other work p q v 0 (eqb-false q p e)) (t q l m))

    pub filled-set : Filled work (set work p v) from end v
    filled-set =
        record {
          size = length-set work p v;
          front = take-set-le from work p v free.ahead;
          new = record { place = p; ahead = free.ahead; taken = set-taken from p free.taken; holds = λ _. get_or-set_same work p v 0 room };
          old = λ a w s k.
              record {
                place = k.place;
                ahead = k.ahead;
                taken = set-taken a k.place k.taken;
                holds = λ l. get_or-set_other work p k.place v 0 (λ e. let z : get_or work p 0 ≡ w = rw (← e) (k.holds l) in omega (arith, free.stop below)) ∙ k.holds l;
              };
        }

-- Where no slot is free up to the end, the first free one from there on is the end or behind it.
pub free_none : (work : List ℕ) (from end : ℕ) → Taken work from end → (p : ℕ) × Free work from end p × (end ≤ p)
free_none work from end taken = by-test (ltb from end) (λ t. ahead (ltb-true from end t)) (λ f. past (ltb-false from end f))
  where
    ahead : from < end → (p : ℕ) × Free work from end p × (end ≤ p)
    ahead h = (end, record { ahead = omega arith; within = λ l. omega arith; taken = taken; stop = λ l. absurd (omega arith) }, omega arith)

    past : end ≤ from → (p : ℕ) × Free work from end p × (end ≤ p)
    past h = (from, record { ahead = omega arith; within = λ l. absurd (omega arith); taken = λ q l m. absurd (omega arith); stop = λ l. absurd (omega arith) }, h)

pub filled_none : (work : List ℕ) (from end v : ℕ) → Taken work from end → Filled work work from end v
filled_none work from end v taken =
    let none = free_none work from end taken in
    record {
      size = refl;
      front = refl;
      new = record { place = none.0; ahead = none.1.ahead; taken = none.1.taken; holds = λ l. absurd (omega (arith, none.2)) };
      old = λ a w s k. k;
    }

-- What is kept from a slot on that is taken by another number is kept from the next on.
pub kept_next : (work : List ℕ) (p end v : ℕ) → p < end → (get_or work p 0 ≡ v → ⊥) → Kept work p end v → Kept work (p + 1) end v
kept_next work p end v h other k =
    let past : p + 1 ≤ k.place = by-test (eqb k.place p) (λ e. let same = eqb-true k.place p e in absurd (other (rw (← same) (k.holds (omega arith))))) (λ e. let o = eqb-false k.place p e in omega (arith, k.ahead, further k.place o k.ahead)) in
    record { place = k.place; ahead = past; taken = λ q l m. k.taken q (omega arith) m; holds = k.holds }
  where
    further : (q : ℕ) → (q ≡ p → ⊥) → p ≤ q → p < q
    further q o l = by-test (ltb p q) (λ e. ltb-true p q e) (λ e. let n = ltb-false p q e in absurd (o (omega arith)))

-- From a free slot on nothing is kept.
pub none_kept : (work : List ℕ) (p end v : ℕ) → p < end → get_or work p 0 ≡ 0 → 0 < v → Kept work p end v → ⊥
none_kept work p end v h free some k =
    by-test (ltb p k.place)
    (λ e. omega (arith, k.taken p (omega arith) (ltb-true p k.place e)))
    (λ e. let n = ltb-false p k.place e in let same : k.place ≡ p = omega (arith, k.ahead) in omega (arith, rw same at (k.holds (omega arith))))

-- What stands behind the front of a table is cleared next.
pub cleared-then : (before work after : List ℕ) (base head : ℕ) → Cleared before work base → base ≤ head → Cleared work after head → Cleared before after base
cleared-then before work after base head k h m =
    record { size = m.size ∙ k.size; front = sym (take-take base head after h) ∙ ap (take base) m.front ∙ take-take base head work h ∙ k.front }
