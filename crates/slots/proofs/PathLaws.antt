-- What a trie has for the letters of a name, and a value that is put for them. Assumes nothing.
use Prim.Native.Nat.{ℕ, ◌+◌, ◌<◌}
use Rattle.lexer.proofs.Basics.{by-test}
use Rattle.lexer.specs.Base.{pick}
use Rattle.slots.proofs.TrieLaws.{path-value, path-grown}
use Rattle.slots.specs.Trie.{Leads, Ends, Led, Told, LettersPut, PathPut, entry_of}
use borrow.Author.Tests.{eqb-true, eqb-false, leb-true, leb-false, ltb-true, ltb-false}
use lib.Dec.{eqb, leb, ltb}
use lib.ListN.{length, get_or, set, length-set, get_or-eq_default}
use lib.Seq.{get_or-set_same, take-set-le}
use mathlib.Core.Bool.{true, false}
use mathlib.Core.List.{List, []}
use mathlib.Core.Path.{◌≡◌, refl}
use native.Mathlib.Omega.{arith}

-- Where the letters of a name lead.
module _ {work : List ℕ} {head top : ℕ} (is : top ≡ get_or work head 0) (there : head + 1 < top) {ls : List ℕ} {n : ℕ} where
  module _ {rest : List ℕ} (l : Leads head work top (head + 1) ls n rest) where
    pub told_none : Ends work top n rest → (v : ℕ) → Led work head ls v → ⊥
    told_none e v p = e v (l.back v (rw (← is) at (p (rw (← is) there))))

    pub put-grown : {after : List ℕ} {v : ℕ} → LettersPut work after n head top rest v → PathPut work after head ls v
    put-grown {after} {v} p =
        record {
          size = p.size;
          front = p.front;
          new = λ h. l.on (omega arith) after (get_or after head 0) (p.grown h) v (p.led h);
          old = λ ms w q h. path-grown (p.grown h) (omega arith) (rw (← is) at (q (rw (← is) there)));
        }

  pub told-whole : Leads head work top (head + 1) ls n [] → Told work head ls (entry_of (get_or work n 0))
  unfolding entry_of pick
  told-whole l =
      by-test (eqb (get_or work n 0) 0)
      (λ e. let z = eqb-true (get_or work n 0) 0 e in rw e (λ v p. let q = value v p in omega (arith, q.0, q.1)))
      (λ e. let z = eqb-false (get_or work n 0) 0 e in rw e (omega (arith, z), λ v p. (value v p).1))
    where
      value : (v : ℕ) → Led work head ls v → (0 < v) × (get_or work n 0 ≡ v)
      value v p = path-value (l.back v (rw (← is) at (p (rw (← is) there))))

-- The head of a trie that was not given up stands in work memory.
pub head-room : (work : List ℕ) (head top : ℕ) → top ≡ get_or work head 0 → leb top (head + 1) ≡ false → (head + 1 < top) × (head < length work)
head-room work head top is f =
    let there = leb-false top (head + 1) f in
    (there, by-test (ltb head (length work)) (λ e. ltb-true head (length work) e) (λ e. let past = get_or-eq_default work 0 {n = head} (ltb-false head (length work) e) in absurd (omega arith)))

-- Nothing is put into a trie that was given up, and one can be given up.
pub put-none : {work : List ℕ} {head top : ℕ} {ls : List ℕ} {v : ℕ} → top ≡ get_or work head 0 → leb top (head + 1) ≡ true → PathPut work work head ls v
put-none {head = head} {top = top} is t = let few = leb-true top (head + 1) t in record { size = refl; front = refl; new = λ m. absurd (omega arith); old = λ ms w q. q }

pub put-lost : (work : List ℕ) (head : ℕ) (ls : List ℕ) (v : ℕ) → head < length work → PathPut work (set work head 0) head ls v
put-lost work head ls v room =
    let none : get_or (set work head 0) head 0 ≡ 0 = get_or-set_same work head 0 0 room in
    record {
      size = length-set work head 0;
      front = take-set-le head work head 0 (omega arith);
      new = λ m. absurd (omega arith);
      old = λ ms w q m. absurd (omega arith);
    }
