-- The walk over the names of stored rows for the place of a name; and its place where the names differ. Assumes nothing.
use Prim.Native.Nat.{ℕ, zero, suc, ◌+◌, ◌-◌, ◌≤◌, ◌<◌}
use Rattle.block.specs.Names.{known}
use Rattle.block.specs.Sound.{names_differ}
use Rattle.lexer.proofs.Basics.{alike_both, alike-sym, and_left, and_right, by-test, not-both, or-true}
use Rattle.lexer.specs.Base.{pick, alike, given, option_of}
use Rattle.std.specs.Option.{is_some}
use Rattle.std.specs.Prelude as Std
use Rattle.std.specs.Prelude.{Some, None}
use Rattle.matrix.proofs.RowNames.{stored_next}
use Rattle.matrix.specs.Lines.{name_at, stored, names_stored}
use Rattle.matrix.specs.OrderHeld.{place_from, place_of}
use borrow.Author.Tests.{not-true}
use lib.ListN.{length, get_or}
use mathlib.Core.Bool.{true, false, ◌&&◌, not}
use mathlib.Core.List.{List, [], ◌∷◌}
use mathlib.Core.Option.{Option, none, some}
use mathlib.Core.Path.{◌≡◌, refl, sym, ◌∙◌}
use native.Mathlib.Numerals.{add-one}
use native.Mathlib.Omega.{arith}

-- A name is known where it has a place.
place-known : (n : List ℕ) (k : ℕ) (names : List (List ℕ)) → known n names ≡ given (place_from n k names)
unfolding known place_from pick given
place-known n k [] = refl
place-known n k (m ∷ r) = by-test (alike n m) (λ t. rw t) (λ f. rw f (place-known n (suc k) r))

pub known-placed : (n : List ℕ) (names : List (List ℕ)) (o : Option ℕ) → o ≡ place_of n names → given o ≡ known n names
unfolding place_of
known-placed n names o e = rw e (sym (place-known n 0 names))

-- The code's answer is something where the definitions' is.
pub some-given : (o : Std.Option ℕ) → is_some o ≡ given (option_of o)
unfolding given option_of
some-given (Some k) = refl
some-given None = refl

-- What is sought is found alike behind so many names.
pub record Placing (text work : List ℕ) (at rows i k : ℕ) : Type 0 where
  pub room : at + rows ≤ length work
  pub rest : place_from (name_at text work i) k (names_stored text work (stored work (at + k) (rows - k))) ≡ place_of (name_at text work i) (names_stored text work (stored work at rows))

module _ (text work : List ℕ) (at rows i : ℕ) where
  pub placing-start : at + rows ≤ length work → Placing text work at rows i 0
  unfolding place_of
  placing-start h =
      let here : at + 0 ≡ at = omega arith in
      let all : rows - 0 ≡ rows = omega arith in
      record { room = h; rest = rw (here, all) }

  module _ (k : ℕ) (p : Placing text work at rows i k) where
    module _ (h : k < rows) where
      split : names_stored text work (stored work (at + k) (rows - k)) ≡ name_at text work (get_or work (at + k) 0) ∷ names_stored text work (stored work (at + (k + 1)) (rows - (k + 1)))
      unfolding names_stored
      split =
          let count : rows - k ≡ suc (rows - (k + 1)) = omega arith in
          let next : at + k + 1 ≡ at + (k + 1) = omega arith in
          rw (count, stored_next work (at + k) (rows - (k + 1)) (omega (arith, p.room)), next)

      pub placing-turn : alike (name_at text work i) (name_at text work (get_or work (at + k) 0)) ≡ false → Placing text work at rows i (k + 1)
      unfolding place_from pick
      placing-turn e = record { room = p.room; rest = rw (add-one k) (rw (split, e, add-one k) at p.rest) }

      pub placing-found : alike (name_at text work i) (name_at text work (get_or work (at + k) 0)) ≡ true → some k ≡ place_of (name_at text work i) (names_stored text work (stored work at rows))
      unfolding place_from pick
      placing-found e = rw (split, e) at p.rest

    pub placing-end : rows ≤ k → none ≡ place_of (name_at text work i) (names_stored text work (stored work at rows))
    unfolding place_from names_stored stored
    placing-end h = let none_left : rows - k ≡ 0 = omega arith in sym (rw none_left) ∙ p.rest

-- Where the names of stored rows differ, a row that has a name stands at the name's place.
module _ (text work : List ℕ) where
  known-here : (k at r : ℕ) (x : List ℕ) → at + suc r ≤ length work → k ≤ r → alike x (name_at text work (get_or work (at + k) 0)) ≡ true
      → known x (names_stored text work (stored work at (suc r))) ≡ true
  unfolding known names_stored
  known-here zero at r x room h a = let here : at + 0 ≡ at = omega arith in rw (stored_next work at r (omega arith), rw here at a) refl
  known-here (suc k) at zero x room h a = absurd (omega arith)
  known-here (suc k) at (suc r) x room h a =
      let next : at + suc k ≡ at + 1 + k = omega arith in
      rw (stored_next work at (suc r) (omega arith), known-here k (at + 1) r x (omega arith) (omega arith) (rw next at a)) (or-true (alike x (name_at text work (get_or work at 0))))

  place-alone : (k at r c : ℕ) (n : List ℕ) → at + suc r ≤ length work → k ≤ r → names_differ (names_stored text work (stored work at (suc r))) ≡ true
      → alike n (name_at text work (get_or work (at + k) 0)) ≡ true → place_from n c (names_stored text work (stored work at (suc r))) ≡ some (c + k)
  unfolding place_from names_stored names_differ pick
  place-alone zero at r c n room h d a =
      let here : at + 0 ≡ at = omega arith in
      let first : c + 0 ≡ c = omega arith in
      rw (stored_next work at r (omega arith), rw here at a, first) refl
  place-alone (suc k) at zero c n room h d a = absurd (omega arith)
  place-alone (suc k) at (suc r) c n room h d a =
      let next : at + suc k ≡ at + 1 + k = omega arith in
      let count : c + suc k ≡ suc c + k = omega arith in
      let x = name_at text work (get_or work at 0) in
      let y = name_at text work (get_or work (at + 1 + k) 0) in
      let rest = names_stored text work (stored work (at + 1) (suc r)) in
      let both : not (known x rest) && names_differ rest ≡ true = rw (stored_next work at (suc r) (omega arith)) at d in
      let here : alike n y ≡ true = rw next at a in
      by-test (alike n x)
      (λ t. not-both (not-true (known x rest) (and_left (not (known x rest)) (names_differ rest) both)) (known-here k (at + 1) r x (omega arith) (omega arith) (alike_both x y n (alike-sym x n ∙ t) (alike-sym y n ∙ here))))
      (λ f. rw (stored_next work at (suc r) (omega arith), f, count) (place-alone k (at + 1) r (suc c) n (omega arith) (omega arith) (and_right (not (known x rest)) (names_differ rest) both) here))

  pub row-placed : (at rows k : ℕ) (n : List ℕ) → at + rows ≤ length work → k < rows → names_differ (names_stored text work (stored work at rows)) ≡ true
      → alike n (name_at text work (get_or work (at + k) 0)) ≡ true → some k ≡ place_of n (names_stored text work (stored work at rows))
  unfolding place_of
  row-placed at zero k n room h d a = absurd (omega arith)
  row-placed at (suc r) k n room h d a = let count : 0 + k ≡ k = omega arith in sym (rw count at (place-alone k at r 0 n room (omega arith) d a))
