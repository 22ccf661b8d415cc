-- Names put in quotes byte by byte: bytes that stand as they are, and what is left of a name.
use Rattle.std.specs.Prelude.{ℕ, ◌+◌, eqb, length, drop, Bool, true, ◌||◌, ◌&&◌, not, List, [], ◌∷◌, ◌++◌, ◌≡◌}
use Rattle.lexer.specs.Base.{byte}
use Rattle.record.specs.Form.{quoted_from}
use Rattle.record.specs.Spell.{escaped}
use Rattle.writing.specs.FormPut.{PutLine}
use Rattle.writing.specs.declared.Putting.{Putting}

-- Is a byte of a name written neither in the record nor in quotes as itself?
unfoldable pub special : ℕ → Bool
special b = eqb b (byte "\n") || eqb b (byte "\\") || (eqb b (byte "'") || eqb b (byte " "))

unfoldable pub all_plain : List ℕ → Bool
all_plain [] = true
all_plain (b ∷ r) = let more = all_plain r in not (special b) && more

-- From one place to another stand bytes of a name that are written as they are.
pub record Run (b : List ℕ) (from to : ℕ) : Type 0 where
  pub read : List ℕ
  pub here : drop from b ≡ read ++ drop to b
  pub ahead : to ≡ from + length read
  pub plain : all_plain read ≡ true

-- Where the rest of a name and an LF stand, the rest is put, with the quote behind it.
abbrev pub RestQuoted : List ℕ → ℕ → List ℕ → ℕ → List ℕ → Putting → Type 0
RestQuoted b at before n after r =
    (name rest : List ℕ) → drop at b ≡ escaped name ++ (byte "\n" ∷ rest) → PutLine b at (escaped name) before n (quoted_from name) after r
