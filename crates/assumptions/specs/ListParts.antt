-- The parts of a character list as the code has them: tests of a part, and the parts of a word one by one.
use Rattle.std.specs.Prelude.{ℕ, ◌≤◌, ◌<◌, leb, eqb, length, true, false, List, [], ◌∷◌, ◌≡◌, Some, None, Option}
use Rattle.assumptions.specs.declared.parts.Part as Code
use Rattle.block.specs.CharacterList.{Part, part, to_dash, cut_from, is_dash, is_stride, is_all, character_number}
use Rattle.lexer.specs.Base.{pick, byte}
use Rattle.lexer.specs.Bytes.{left}
use Rattle.lexer.specs.Tokens.{Token}
use Rattle.lexer.specs.Words.{Numbered, number, digits, largest}
use Rattle.lexer.specs.declared.Cursor.{Cursor}
use Rattle.lexer.specs.declared.Kind.{Kind}

-- What the code tells of a part.
unfoldable pub told : ℕ → Part → Code.Part
told count p =
    record {
      index = p.word.index;
      dash = is_dash p;
      stride = is_stride p;
      all = is_all p;
      character = character_number count p;
      number = number p.own;
    }

-- The text of a word's first part.
unfoldable pub first_part : List ℕ → List ℕ
first_part [] = []
first_part (b ∷ r) = let more = b ∷ to_dash r in pick (eqb b (byte "-")) (b ∷ []) more

-- The value of the digits up to the next dash, if it has at most 64 bits and there is no other byte; else 0.
unfoldable pub digits_value : List ℕ → ℕ
digits_value text = let n = digits 0 (to_dash text) in pick (leb n largest) n 0

-- A part of a word, what is told of it, and the cursor behind it.
pub record PartedHere (text : List ℕ) (count : ℕ) (w : Numbered) (c : Cursor) (q : Code.Part) (d : Cursor) : Type 0 where
  pub here : cut_from w false (left text c) ≡ part w (first_part (left text c)) ∷ cut_from w false (left text d)
  pub tests : q ≡ told count (part w (first_part (left text c)))
  pub ahead : c.at < d.at
  pub within : d.at ≤ length text

-- The next part of a word from a cursor on, or none.
pub record Parted (text : List ℕ) (count : ℕ) (w : Numbered) (c : Cursor) (r : Option (Code.Part × Cursor)) : Type 0 where
  pub more : (q : Code.Part) (d : Cursor) → r ≡ Some (q, d) → PartedHere text count w c q d
  pub end : r ≡ None → cut_from w false (left text c) ≡ []

-- The end of a part that has begun: what is left behind it begins with a dash, or is nothing.
pub record PartEnd (text : List ℕ) (c r : Cursor) : Type 0 where
  pub rest : (w : Numbered) → cut_from w true (left text c) ≡ cut_from w false (left text r)
  pub onward : c.at ≤ r.at
  pub within : c.at ≤ length text → r.at ≤ length text

-- A word of digits alone, which spells a number from 1 on that has at most 64 bits.
pub record Spells (t : Token) (n : ℕ) : Type 0 where
  pub word : t.kind ≡ Kind.Word
  pub value : digits 0 t.text ≡ n
  pub some : 0 < n
  pub small : leb n largest ≡ true
