-- Laws of lines and columns: what one byte adds, and the loop that passes over the bytes before a place. Assumes nothing.
use Prim.Native.Nat.{ℕ, zero, suc, ◌+◌, ◌-◌, ◌≤◌, ◌<◌}
use Rattle.lexer.proofs.ListLaws.{drop-next}
use Rattle.lexer.specs.Base.{pick}
use Rattle.lexer.specs.Classes.{is_newline, is_return, is_part}
use Rattle.lexer.specs.Places.{move, place_from}
use Rattle.lexer.specs.Scanning.{first_symbol, symbol_at}
use Rattle.lexer.specs.declared.Place.{Place}
use Rattle.lexer.specs.declared.Symbol.{Symbol}
use lib.ListN.{length, drop, drop_of_length-le}
use mathlib.Core.Bool.{Bool, true, false, ◌||◌}
use mathlib.Core.List.{List, []}
use mathlib.Core.Logic.{◌⊎◌, inl, inr}
use mathlib.Core.Path.{◌≡◌, refl, sym, ◌∙◌}
use native.Mathlib.Omega.{arith}

-- A place whose line and column are so small
pub record Small (n : ℕ) (p : Place) : Type 0 where
  pub line : p.line ≤ n
  pub column : p.column ≤ n

-- One byte adds at most one line or one column.
move-small : (n : ℕ) (p : Place) (s : Symbol) → Small n p → 0 < n → Small (n + 1) (move p s)
unfolding move pick
move-small n p s h pos = go (is_newline s) (is_return s || is_part s)
  where
    go : (a b : Bool) → Small (n + 1) (pick a (record { line = suc p.line; column = 1 }) (pick b p (record { line = p.line; column = suc p.column })))
    go true b = omega arith
    go false true = omega arith
    go false false = omega arith

-- The loop: from here, with this place, the definition gives the place that is asked for. Lines and columns begin at `most` or less.
pub record Placing (text : List ℕ) (at most : ℕ) (asked p : Place) (i : ℕ) : Type 0 where
  pub small : Small (i + most) p
  pub rest : place_from p (at - i) (drop i text) ≡ asked

passed : (text : List ℕ) (p : Place) (k i : ℕ) → i < length text
    → place_from p (suc k) (drop i text) ≡ place_from (move p (symbol_at text i)) k (drop (i + 1) text)
unfolding place_from symbol_at first_symbol
passed text p k i h = rw (drop-next text i)

pub placing-turn : {text : List ℕ} {at most : ℕ} {asked p q : Place} {i : ℕ} {s : Symbol}
    → Placing text at most asked p i → 0 < most → (i < at) × (i < length text) → s ≡ symbol_at text i → q ≡ move p s → Placing text at most asked q (i + 1)
placing-turn {text} {at} {most} {asked} {p} {q} {i} {s} h pos below here moved = rw (moved, here) (record { small = small; rest = rest })
  where
    one : at - i ≡ suc (at - (i + 1))
    one = omega (arith, below.0)

    small : Small (i + 1 + most) (move p (symbol_at text i))
    small = let n : i + most + 1 ≡ i + 1 + most = omega arith in rw n at (move-small (i + most) p (symbol_at text i) h.small (omega arith))

    rest : place_from (move p (symbol_at text i)) (at - (i + 1)) (drop (i + 1) text) ≡ asked
    rest = sym (passed text p (at - (i + 1)) i below.1) ∙ (rw one at h.rest)

-- Where no byte is left the place stays.
stays : (p : Place) (k : ℕ) → place_from p k [] ≡ p
unfolding place_from
stays p zero = refl
stays p (suc k) = refl

pub placing-end : {text : List ℕ} {at most : ℕ} {asked p : Place} {i : ℕ} → Placing text at most asked p i → (at ≤ i) ⊎ (length text ≤ i) → p ≡ asked
unfolding place_from
placing-end {text} {at} {most} {asked} {p} {i} h (inl past) = let none : at - i ≡ 0 = omega arith in rw none at h.rest
placing-end {text} {at} {most} {asked} {p} {i} h (inr all) = sym (stays p (at - i)) ∙ (rw (drop_of_length-le text all) at h.rest)
