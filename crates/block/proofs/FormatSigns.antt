-- Signs: a text of one valid byte is that sign. Assumes nothing.
use Prim.Native.Nat.{ℕ}
use Rattle.std.specs.Prelude.{Some, None}
use Rattle.block.specs.Format.{valid_symbol, single_symbol}
use Rattle.lexer.proofs.NextBytes.{front-left}
use Rattle.lexer.specs.Base.{pick, option_of}
use Rattle.lexer.specs.Bytes.{front_at, left}
use Rattle.lexer.specs.Stored.{word_of}
use Rattle.lexer.specs.declared.Cursor.{Cursor}
use lib.ListN.{get_or}
use mathlib.Core.Bool.{true, false}
use mathlib.Core.List.{List, [], ◌∷◌}
use mathlib.Core.Path.{◌≡◌}

-- What is left at the front of a word is its text.
pub word_left : (text work : List ℕ) (i : ℕ) {start : ℕ} {front : Cursor} → front ≡ front_at text start → start ≡ get_or work i 0 → left text front ≡ (word_of text work i).token.text
unfolding word_of
word_left text work i {start} {front} e at = rw (← at) (front-left text start front e)

-- The one symbol that a text is, by its first bytes.
module _ (l : List ℕ) (b : ℕ) (r : List ℕ) (e : l ≡ b ∷ r) where
  pub single-valid : r ≡ [] → valid_symbol b ≡ true → option_of (Some b) ≡ single_symbol l
  unfolding single_symbol option_of pick
  single-valid n v = rw (e, n, v)

  pub single-invalid : r ≡ [] → valid_symbol b ≡ false → option_of None ≡ single_symbol l
  unfolding single_symbol option_of pick
  single-invalid n v = rw (e, n, v)

  pub single-longer : (c : ℕ) (s : List ℕ) → r ≡ c ∷ s → option_of None ≡ single_symbol l
  unfolding single_symbol option_of
  single-longer c s n = rw (e, n)

pub single-empty : (l : List ℕ) → l ≡ [] → option_of None ≡ single_symbol l
unfolding single_symbol option_of
single-empty l e = rw e
