-- The bytes of a token's text are below 256 if those of the text are. Assumes nothing.
use Prim.Native.Nat.{ℕ, zero, suc, ◌+◌, ◌<◌}
use Rattle.lexer.proofs.Basics.{chosen}
use Rattle.lexer.proofs.NextBytes.{front-left}
use Rattle.lexer.specs.Base.{pick}
use Rattle.lexer.specs.Bytes.{front_at, left, rest_of, first}
use Rattle.lexer.specs.Classes.{symbol, is_newline, is_return, is_single, is_double, is_open, is_other, is_part}
use Rattle.lexer.specs.Lexing.{token_at}
use Rattle.lexer.specs.Tokens.{tail, text_step, quoted_byte, next}
use Rattle.lexer.specs.declared.Cursor.{Cursor}
use Rattle.lexer.specs.declared.Mode.{Mode}
use Rattle.lexer.specs.declared.Symbol.{Symbol}
use lib.Dec.{lit<}
use lib.ListN.{get_or, drop}
use lib.Seq.{get_or-drop}
use mathlib.Core.Bool.{◌||◌}
use mathlib.Core.List.{List, [], ◌∷◌}
use mathlib.Core.Path.{refl}

-- Every number of the list is below 256; so is the 0 that stands for one past its end.
abbrev pub Small : List ℕ → Type 0
Small l = (k : ℕ) → get_or l k 0 < 256

none-small : Small []
none-small k = lit< tt

more-small : (b : ℕ) (l : List ℕ) → b < 256 → Small l → Small (b ∷ l)
more-small b l h s zero = h
more-small b l h s (suc k) = s k

drop-small : (l : List ℕ) (i : ℕ) → Small l → Small (drop i l)
drop-small l i s k = rw (get_or-drop i l k 0) (s (i + k))

step_small : (m : Mode) (s : Symbol) (b : ℕ) (more : List ℕ) → b < 256 → Small more → Small (text_step m s b more)
unfolding text_step quoted_byte
step_small Mode.Between s b more h k = none-small
step_small Mode.Word s b more h k = chosen Small (is_open s) (λ _. k) (λ _. chosen Small (is_other s || is_part s) (λ _. more-small b more h k) (λ _. none-small))
step_small Mode.Quoted s b more h k = chosen Small (is_single s || is_return s) (λ _. k) (λ _. more-small (pick (is_newline s) 10 b) more (chosen (λ c. c < 256) (is_newline s) (λ _. lit< tt) (λ _. h)) k)
step_small Mode.Closing s b more h k = chosen Small (is_single s) (λ _. more-small b more h k) (λ _. none-small)
step_small Mode.String s b more h k = chosen Small (is_double s) (λ _. none-small) (λ _. chosen Small (is_return s) (λ _. k) (λ _. more-small (pick (is_newline s) 10 b) more (chosen (λ c. c < 256) (is_newline s) (λ _. lit< tt) (λ _. h)) k))
step_small (Mode.Comment d) s b more h k = none-small
step_small (Mode.WordComment d) s b more h k = k

tail-small : (m : Mode) (r : List ℕ) → Small r → Small (tail m r)
unfolding tail
tail-small m [] s = none-small
tail-small m (b ∷ r) s = step_small m (symbol b r) b (tail (next m (symbol b r)) r) (s zero) (tail-small (next m (symbol b r)) r (λ k. s (suc k)))

-- What is left of a token's text, and all of it
left-small : (text : List ℕ) (c : Cursor) → Small text → Small (left text c)
unfolding left rest_of first
left-small text c s = go c.mode (drop c.at text) (drop-small text c.at s)
  where
    front : (r : List ℕ) → Small r → Small (first r)
    front [] s = none-small
    front (b ∷ r) s = more-small b [] (s zero) none-small

    go : (m : Mode) (r : List ℕ) → Small r → Small (rest_of m r)
    go Mode.Between r s = front r s
    go Mode.Word r s = tail-small Mode.Word r s
    go Mode.Quoted r s = tail-small Mode.Quoted r s
    go Mode.Closing r s = none-small
    go Mode.String r s = tail-small Mode.String r s
    go (Mode.Comment d) r s = none-small
    go (Mode.WordComment d) r s = none-small

pub token-small : (text : List ℕ) (i : ℕ) → Small text → Small (token_at text i).text
token-small text i s = rw (front-left text i (front_at text i) refl) at (left-small text (front_at text i) s)
