-- Words that are told by their bytes at once: digits alone, or letters alone, and behind them a byte that ends a word whatever comes next.
use Rattle.std.specs.Prelude.{ℕ, ◌+◌, ◌*◌, ◌-◌, eqb, leb, Bool, false, ◌&&◌, ◌||◌, List, [], ◌∷◌}
use Rattle.block.specs.declared.model.CharacterOrdering.{CharacterOrdering}
use Rattle.lexer.specs.Base.{bytes, lower, pick}
use Rattle.lexer.specs.PlainWords.{is_ends}
use Rattle.std.proofs.Math.Option.{Option, none, some}

-- The number that these bytes spell behind digits of a value, if they are digits up to a byte that ends a word; else 0, and 0 also where the
-- number has nearly 64 bits.
unfoldable pub told_number : ℕ → List ℕ → ℕ
told_number n [] = 0
told_number n (b ∷ r) =
    let more = told_number (n * 10 + (b - 48)) r in
    pick (leb 48 b && leb b 57) (pick (leb 1844674407370955160 n) 0 more) (pick (is_ends b) n 0)

-- Do these bytes begin with the letters of a keyword, in either case, and a byte behind them that ends a word?
unfoldable pub told_keyword : List ℕ → List ℕ → Bool
told_keyword k [] = false
told_keyword [] (b ∷ r) = is_ends b
told_keyword (a ∷ k) (b ∷ r) =
    let more = told_keyword k r in
    let letter = (leb 97 b && leb b 122) || (leb 65 b && leb b 90) in
    pick (letter && eqb (lower b) (lower a)) more false

-- The type that these bytes begin with, or none.
unfoldable pub told_type : List ℕ → Option CharacterOrdering
told_type l = pick (told_keyword (bytes "ORD") l) (some CharacterOrdering.Ordered) (pick (told_keyword (bytes "UNORD") l) (some CharacterOrdering.Unordered) none)
