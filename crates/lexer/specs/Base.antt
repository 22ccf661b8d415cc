-- What the definitions are written with: a choice by a test, texts as bytes, and tests on lists of bytes.
use Prim.Native.Char.{code}
use Rattle.std.specs.Prelude.{ℕ, ◌+◌, leb, eqb, Bool, true, false, ◌&&◌, ◌||◌, List, [], ◌∷◌}
use Prim.Native.String as Str
use Rattle.std.proofs.Math.Option.{Option, none, some}
use Rattle.std.specs.Prelude.{Some, None}
use Rattle.std.specs.Prelude.{Option as Answer}

module _ {X : Type 0} where
  -- the first where the test holds, else the second
  unfoldable pub pick : Bool → X → X → X
  pick true x y = x
  pick false x y = y

  -- is there something?
  unfoldable pub given : Option X → Bool
  given none = false
  given (some x) = true

  -- what the code answers, if anything
  unfoldable pub option_of : Answer X → Option X
  option_of None = none
  option_of (Some x) = some x

  -- is the list empty?
  unfoldable pub is_empty : List X → Bool
  is_empty [] = true
  is_empty (x ∷ xs) = false

-- The bytes of an ASCII text.
unfoldable pub bytes : Str.String → List ℕ
bytes Str.[] = []
bytes (Str.◌∷◌ c s) = code c ∷ bytes s

-- The byte of an ASCII character, written as a text of that character alone.
abbrev pub byte : Str.String → ℕ
byte Str.[] = 0
byte (Str.◌∷◌ c s) = code c

-- Is the number among these?
unfoldable pub among : ℕ → List ℕ → Bool
among b [] = false
among b (c ∷ cs) = let more = among b cs in eqb b c || more

-- Are the two lists equal?
unfoldable pub same : List ℕ → List ℕ → Bool
same [] [] = true
same [] (b ∷ r) = false
same (a ∷ l) [] = false
same (a ∷ l) (b ∷ r) = let more = same l r in eqb a b && more

-- An ASCII capital as its small letter; any other byte is itself.
unfoldable pub lower : ℕ → ℕ
lower b = pick (leb (byte "A") b && leb b (byte "Z")) (b + 32) b

-- Are the two texts equal, ASCII case ignored?
unfoldable pub alike : List ℕ → List ℕ → Bool
alike [] [] = true
alike [] (b ∷ r) = false
alike (a ∷ l) [] = false
alike (a ∷ l) (b ∷ r) = let more = alike l r in eqb (lower a) (lower b) && more
