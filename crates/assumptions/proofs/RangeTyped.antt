-- A range is typed character by character: those up to a number are typed, and those behind it are as they were. Assumes nothing.
use Prim.Native.Nat.{ℕ, zero, suc, ◌+◌, ◌-◌, ◌%◌, ◌≤◌, ◌<◌, min}
use Rattle.assumptions.proofs.TypesHeldLaws.{type-of-number, type-of-some, held_more, held-set-before, held-set-next}
use Rattle.assumptions.specs.TypesHeld.{type_number, type_of, types_held}
use Rattle.block.specs.CharacterList.{in_range}
use Rattle.block.specs.Typeset.{Types, typed_one, typed_range, on_types}
use Rattle.block.specs.declared.kinds.Range.{Range}
use Rattle.block.specs.declared.model.CharacterOrdering.{CharacterOrdering}
use Rattle.lexer.proofs.Basics.{and_both, and-false, by-test, not-both}
use Rattle.lexer.specs.Base.{pick}
use borrow.Author.Tests.{le-leb, lt-leb, leb-true, leb-false, eq-eqb, ne_eqb, eqb-true, eqb-false, lt-ltb, ltb-true}
use lib.Dec.{eqb, ltb, leb}
use lib.ListN.{length, get_or, take, set, length-set}
use lib.Seq.{take-set-le}
use mathlib.Core.Bool.{Bool, true, false, ◌&&◌, ◌||◌}
use mathlib.Core.List.{List, [], ◌∷◌, ◌++◌, append_assoc, append-nil}
use mathlib.Core.Option.{Option, none, some}
use mathlib.Core.Path.{◌≡◌, refl, sym, ap, ◌∙◌}
use native.Mathlib.Nat.{zero-add, zero-mod, mod-zero, mod-eq_of_lt, mod-add-mod, add-mod_right}
use native.Mathlib.Omega.{arith}

-- Which numbers are in a range
module _ (r : Range) (j : ℕ) where
  in-range-on : r.first ≤ j → j ≤ r.last → (j - r.first) % r.stride ≡ 0 → in_range r j ≡ true
  unfolding in_range
  in-range-on f l e = and_both (and_both (le-leb r.first j f) (le-leb j r.last l)) (eq-eqb ((j - r.first) % r.stride) 0 e)

  in-range-before : j < r.first → in_range r j ≡ false
  unfolding in_range
  in-range-before h = rw (lt-leb r.first j h)

  in-range-behind : r.last < j → in_range r j ≡ false
  unfolding in_range
  in-range-behind h = rw (lt-leb j r.last h, and-false (leb r.first j))

  in-range-off : ((j - r.first) % r.stride ≡ 0 → ⊥) → in_range r j ≡ false
  unfolding in_range
  in-range-off h = rw (ne_eqb ((j - r.first) % r.stride) 0 h, and-false (leb r.first j && leb j r.last))

  -- none is between a number of the range and the next
  module _ (k : ℕ) (from : r.first ≤ k) (on : (k - r.first) % r.stride ≡ 0) (h : k < j) where
    in-range-between : j < k + r.stride → in_range r j ≡ false
    in-range-between l =
        let split : (k - r.first) + (j - k) ≡ j - r.first = omega arith in
        let left : (j - r.first) % r.stride ≡ (j - k) % r.stride = rw split at (rw (on, zero-add (j - k)) at (sym (mod-add-mod (k - r.first) r.stride (j - k)))) in
        in-range-off (λ e. absurd (omega (arith, sym (rw (mod-eq_of_lt {n = j - k} {m = r.stride} (omega arith)) at left) ∙ e)))

    in-range-alone : r.stride ≡ 0 → in_range r j ≡ false
    in-range-alone z =
        let here : k - r.first ≡ 0 = sym (mod-zero (k - r.first)) ∙ rw z at on in
        in-range-off (λ e. absurd (omega (arith, sym (mod-zero (j - r.first)) ∙ rw z at e)))

-- One character more behind those in front
module _ (o : CharacterOrdering) (front : Types) where
  passed-by : (t : Option CharacterOrdering) (more : Option Types) → on_types (typed_one false o t more) (λ us. some (front ++ us)) ≡ on_types more (λ us. some ((front ++ (t ∷ [])) ++ us))
  unfolding on_types typed_one
  passed-by t none = refl
  passed-by t (some us) = ap some (sym (append_assoc front (t ∷ []) us))

  typed-here : (more : Option Types) → on_types (typed_one true o none more) (λ us. some (front ++ us)) ≡ on_types more (λ us. some ((front ++ (some o ∷ [])) ++ us))
  unfolding on_types typed_one
  typed-here none = refl
  typed-here (some us) = ap some (sym (append_assoc front (some o ∷ []) us))

  typed-twice : (p : CharacterOrdering) (more : Option Types) → on_types (typed_one true o (some p) more) (λ us. some (front ++ us)) ≡ none
  unfolding on_types typed_one
  typed-twice p none = refl
  typed-twice p (some us) = refl

same : (x : Option Types) → on_types x (λ us. some us) ≡ x
unfolding on_types
same none = refl
same (some us) = refl

-- The characters up to the number n are done.
pub record Ranging (o : CharacterOrdering) (r : Range) (at count : ℕ) (before work : List ℕ) (n : ℕ) : Type 0 where
  pub size : length work ≡ length before
  pub front : take at work ≡ take at before
  pub rest : on_types (typed_range o r (suc n) (types_held work (at + n) (count - n))) (λ us. some (types_held work at n ++ us)) ≡ typed_range o r 1 (types_held before at count)

module _ (o : CharacterOrdering) (r : Range) (at count : ℕ) (before : List ℕ) where
  ranging-start : Ranging o r at count before before 0
  unfolding types_held
  ranging-start =
      let here : at + 0 ≡ at = omega arith in
      let all : count - 0 ≡ count = omega arith in
      record { size = refl; front = refl; rest = rw (here, all) (same (typed_range o r 1 (types_held before at count))) }

  module _ (work : List ℕ) (n : ℕ) (k : Ranging o r at count before work n) where
    -- what the next character comes to
    next : n < count → typed_range o r (suc n) (types_held work (at + n) (count - n)) ≡ typed_one (in_range r (suc n)) o (type_of (get_or work (at + n) 0)) (typed_range o r (suc (suc n)) (types_held work (at + suc n) (count - suc n)))
    unfolding types_held typed_range
    next h =
        let less : count - n ≡ suc (count - suc n) = omega arith in
        let more : at + suc n ≡ suc (at + n) = omega arith in
        rw (less, more)

    ranging-pass : n < count → in_range r (suc n) ≡ false → Ranging o r at count before work (suc n)
    ranging-pass h e =
        record {
          size = k.size;
          front = k.front;
          rest = rw (held_more work at n) (sym (passed-by o (types_held work at n) (type_of (get_or work (at + n) 0)) (typed_range o r (suc (suc n)) (types_held work (at + suc n) (count - suc n)))) ∙ rw (next h, e) at k.rest);
        }

    ranging-typed : n < count → at + count ≤ length before → in_range r (suc n) ≡ true → get_or work (at + n) 0 ≡ 0 → Ranging o r at count before (set work (at + n) (type_number o)) (suc n)
    unfolding type_of
    ranging-typed h fits e z =
        let after = set work (at + n) (type_number o) in
        let room : at + n < length work = omega (arith, k.size) in
        let front : types_held after at (suc n) ≡ types_held work at n ++ (some o ∷ []) = held-set-next work at n (type_number o) room ∙ rw (type-of-number o) in
        let behind : types_held after (at + suc n) (count - suc n) ≡ types_held work (at + suc n) (count - suc n) = held-set-before work (at + n) (type_number o) (at + suc n) (count - suc n) (omega arith) in
        record {
          size = length-set work (at + n) (type_number o) ∙ k.size;
          front = take-set-le at work (at + n) (type_number o) (omega arith) ∙ k.front;
          rest = rw (front, behind) (sym (typed-here o (types_held work at n) (typed_range o r (suc (suc n)) (types_held work (at + suc n) (count - suc n)))) ∙ rw (next h, e, z) at k.rest);
        }

    ranging-twice : n < count → in_range r (suc n) ≡ true → (get_or work (at + n) 0 ≡ 0 → ⊥) → none ≡ typed_range o r 1 (types_held before at count)
    ranging-twice h e z =
        let old = type-of-some (get_or work (at + n) 0) z in
        sym (typed-twice o (types_held work at n) old.0 (typed_range o r (suc (suc n)) (types_held work (at + suc n) (count - suc n)))) ∙ rw (next h, e, old.1) at k.rest

    ranging-end : n ≡ count → some (types_held work at count) ≡ typed_range o r 1 (types_held before at count)
    unfolding types_held typed_range on_types
    ranging-end e =
        let none : count - count ≡ 0 = omega arith in
        sym (rw none (ap some (append-nil (types_held work at count)))) ∙ rw e at k.rest

  -- Numbers that are not in the range are passed over.
  ranging-more : (work : List ℕ) (n d : ℕ) → n + d ≤ count → ((j : ℕ) → n < j → j ≤ n + d → in_range r j ≡ false) → Ranging o r at count before work n → Ranging o r at count before work (n + d)
  ranging-more work n zero h e k = let here : n + 0 ≡ n = omega arith in rw here k
  ranging-more work n (suc d) h e k =
      let one = ranging-pass work n k (omega arith) (e (suc n) (omega arith) (omega arith)) in
      let here : n + suc d ≡ suc n + d = omega arith in
      rw here (ranging-more work (suc n) d (omega arith) (λ j l u. e j (omega arith) (omega arith)) one)

  ranging-skip : (work : List ℕ) (n m : ℕ) → n ≤ m → m ≤ count → ((j : ℕ) → n < j → j ≤ m → in_range r j ≡ false) → Ranging o r at count before work n → Ranging o r at count before work m
  ranging-skip work n m l h e k =
      let sum : n + (m - n) ≡ m = omega arith in
      rw sum at (ranging-more work n (m - n) (omega arith) (λ j p q. e j p (omega arith)) k)

-- From a number of the range to just before the next
next-onward : (k s l c : ℕ) → (s ≡ 0 → ⊥) → k + s ≤ min l c → k ≤ min (k + s - 1) c
next-onward k s l c z h = omega (arith, z)

next-within : (j k s c : ℕ) → (s ≡ 0 → ⊥) → j ≤ min (k + s - 1) c → j < k + s
next-within j k s c z h = omega (arith, z)

-- At a number of the range, or behind its last: the characters in front of it are done.
pub record Striding (o : CharacterOrdering) (r : Range) (at count : ℕ) (before work : List ℕ) (k : ℕ) : Type 0 where
  pub done : Ranging o r at count before work (min (k - 1) count)
  pub from : r.first ≤ k
  pub on : (k - r.first) % r.stride ≡ 0

module _ (o : CharacterOrdering) (r : Range) (at count : ℕ) (before : List ℕ) where
  pub striding-start : Striding o r at count before before r.first
  striding-start =
      let none : r.first - r.first ≡ 0 = omega arith in
      record {
        done = ranging-skip o r at count before before 0 (min (r.first - 1) count) (omega arith) (omega arith) (λ j p q. in-range-before r j (omega arith)) (ranging-start o r at count before);
        from = omega arith;
        on = rw none (zero-mod r.stride);
      }

  pub striding-past : (work : List ℕ) (k : ℕ) → Striding o r at count before work k → min r.last count < k → some (types_held work at count) ≡ typed_range o r 1 (types_held before at count)
  striding-past work k s h =
      ranging-end o r at count before work count
      (ranging-skip o r at count before work (min (k - 1) count) count (omega arith) (omega arith) (λ j p q. in-range-behind r j (omega arith)) s.done)
      refl

  -- what typing one character answers, and the memory behind it
  module _ (fits : at + count ≤ length before) (work after : List ℕ) where
    pub striding-typed : (k : ℕ) (b : Bool) → Striding o r at count before work k → k ≤ min r.last count
        → b ≡ eqb k 0 || eqb (get_or work (at + (k - 1)) 0) 0 → after ≡ pick (ltb 0 k && b) (set work (at + (k - 1)) (type_number o)) work
        → b ≡ true → Ranging o r at count before after k
    unfolding pick
    striding-typed zero b s within free stored t =
        let none : min (0 - 1) count ≡ 0 = omega arith in
        rw (stored) (rw none at s.done)
    striding-typed (suc n) b s within free stored t =
        let this : suc n - 1 ≡ n = omega arith in
        let front : min (suc n - 1) count ≡ n = omega arith in
        let some : eqb (suc n) 0 ≡ false = ne_eqb (suc n) 0 (λ e. omega arith) in
        let zero : eqb (get_or work (at + n) 0) 0 ≡ true = sym (rw (this, some) at free) ∙ t in
        let put : after ≡ set work (at + n) (type_number o) = rw (this, t, lt-ltb 0 (suc n) (omega arith)) at stored in
        rw put (ranging-typed o r at count before work n (rw front at s.done) (omega arith) fits (in-range-on r (suc n) s.from (omega arith) s.on) (eqb-true (get_or work (at + n) 0) 0 zero))

    pub striding-twice : (k : ℕ) (b : Bool) → Striding o r at count before work k → k ≤ min r.last count
        → b ≡ eqb k 0 || eqb (get_or work (at + (k - 1)) 0) 0 → after ≡ pick (ltb 0 k && b) (set work (at + (k - 1)) (type_number o)) work
        → b ≡ false → record { front : take at after ≡ take at before; typed : none ≡ typed_range o r 1 (types_held before at count) }
    unfolding pick
    striding-twice zero b s within free stored f = not-both f free
    striding-twice (suc n) b s within free stored f =
        let this : suc n - 1 ≡ n = omega arith in
        let front : min (suc n - 1) count ≡ n = omega arith in
        let some : eqb (suc n) 0 ≡ false = ne_eqb (suc n) 0 (λ e. omega arith) in
        let full : eqb (get_or work (at + n) 0) 0 ≡ false = sym (rw (this, some) at free) ∙ f in
        let same : after ≡ work = rw (f, lt-ltb 0 (suc n) (omega arith)) at stored in
        record { front = ap (take at) same ∙ s.done.front; typed = ranging-twice o r at count before work n (rw front at s.done) (omega arith) (in-range-on r (suc n) s.from (omega arith) s.on) (eqb-false (get_or work (at + n) 0) 0 full) }

  -- behind a number of the range
  module _ (work : List ℕ) (k : ℕ) (from : r.first ≤ k) (on : (k - r.first) % r.stride ≡ 0) (within : k ≤ min r.last count) (d : Ranging o r at count before work k) where
    pub striding-last : eqb r.stride 0 || ltb (min r.last count - k) r.stride ≡ true → some (types_held work at count) ≡ typed_range o r 1 (types_held before at count)
    striding-last t = ranging-end o r at count before work count (ranging-skip o r at count before work k count (omega arith) (omega arith) none d) refl
      where
        here : (j : ℕ) → k < j → j ≤ count → j ≤ r.last → in_range r j ≡ false
        here j p q l =
            by-test (eqb r.stride 0) (λ z. in-range-alone r j k from on p (eqb-true r.stride 0 z))
            (λ z. let less = ltb-true (min r.last count - k) r.stride (rw z at t) in in-range-between r j k from on p (omega arith))

        none : (j : ℕ) → k < j → j ≤ count → in_range r j ≡ false
        none j p q = by-test (leb j r.last) (λ l. here j p q (leb-true j r.last l)) (λ l. in-range-behind r j (leb-false j r.last l))

    pub striding-turn : (r.stride ≡ 0 → ⊥) → k + r.stride ≤ min r.last count → Striding o r at count before work (k + r.stride)
    striding-turn z h =
        let split : (k - r.first) + r.stride ≡ k + r.stride - r.first = omega arith in
        record {
          done = ranging-skip o r at count before work k (min (k + r.stride - 1) count) (next-onward k r.stride r.last count z h) (omega arith) (λ j p q. in-range-between r j k from on p (next-within j k r.stride count z q)) d;
          from = omega arith;
          on = rw split at (add-mod_right (k - r.first) r.stride ∙ on);
        }
