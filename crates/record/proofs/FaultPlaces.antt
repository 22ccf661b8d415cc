-- A text that is not UTF-8 is refused with 3 at no place; any other fault of a text stands at a line of it. Assumes nothing.
use Prim.Native.Nat.{ℕ, zero, suc, ◌≤◌}
use Rattle.block.specs.Outcome.{Outcome, done, refused}
use Rattle.block.specs.Parse.{Read, reading, fault, place_of, placed, parse, read_tokens, read}
use Rattle.block.specs.Reading.{Reading}
use Rattle.lexer.proofs.Basics.{chosen}
use Rattle.lexer.specs.Base.{pick}
use Rattle.lexer.specs.Classes.{symbol, is_newline, is_return, is_part}
use Rattle.lexer.specs.Places.{move, place_from, place, nowhere, starts, opened}
use Rattle.lexer.specs.Tokens.{Token, tokens, left_open}
use Rattle.lexer.specs.Utf8.{utf8}
use Rattle.lexer.specs.declared.Place.{Place}
use Rattle.lexer.specs.declared.Symbol.{Symbol}
use Rattle.lexer.specs.declared.refusal.Refusal.{Refusal}
use lib.ListN.{get_or}
use mathlib.Core.Bool.{true, false, ◌||◌}
use mathlib.Core.List.{List, [], ◌∷◌}
use mathlib.Core.Option.{Option, none, some}
use mathlib.Core.Path.{◌≡◌, subst}
use native.Mathlib.Omega.{arith}

-- Lines count from 1.
move-line : (p : Place) (s : Symbol) → 1 ≤ p.line → 1 ≤ (move p s).line
unfolding move
move-line p s h =
    chosen (λ (q : Place). 1 ≤ q.line) (is_newline s) (λ _. omega arith) (λ _. chosen (λ (q : Place). 1 ≤ q.line) (is_return s || is_part s) (λ _. h) (λ _. h))

from-line : (p : Place) (n : ℕ) (text : List ℕ) → 1 ≤ p.line → 1 ≤ (place_from p n text).line
unfolding place_from
from-line p zero text h = h
from-line p (suc n) [] h = h
from-line p (suc n) (b ∷ r) h = from-line (move p (symbol b r)) n r (move-line p (symbol b r) h)

place-line : (text : List ℕ) (at : ℕ) → 1 ≤ (place text at).line
unfolding place
place-line text at = from-line (record { line = 1; column = 1 }) at text (omega arith)

abbrev Lined : Read → Type 0
Lined (reading r) = Unit {0}
Lined (fault n p) = 1 ≤ p.line

placed-lined : (text : List ℕ) (o : Outcome Reading) → Lined (placed text o)
unfolding placed place_of
placed-lined text (done r) = tt
placed-lined text (refused n i) = place-line text (get_or (starts text) i 0)

tokens-lined : (text : List ℕ) (ts : List Token) (o : Option Refusal) → Lined (read_tokens text ts o)
unfolding read_tokens
tokens-lined text ts none = placed-lined text (parse ts)
tokens-lined text ts (some n) = place-line text (opened text)

pub fault-placed : (text : List ℕ) (n : Refusal) (p : Place) → utf8 text ≡ true → read text ≡ fault n p → 1 ≤ p.line
unfolding read pick
fault-placed text n p u h = subst Lined (rw u at h) (tokens-lined text (tokens text) (left_open (tokens text)))

pub not-utf8 : (text : List ℕ) → utf8 text ≡ false → read text ≡ fault Refusal.NotUtf8 nowhere
unfolding read pick
not-utf8 text u = rw u
