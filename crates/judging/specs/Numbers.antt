-- Numbers of a record's lines, as the code reads them.
use Rattle.std.specs.Prelude.{ℕ, ◌+◌, ◌*◌, ◌-◌, ◌≤◌, leb, length, drop, ◌&&◌, List, [], ◌∷◌, ◌++◌, ◌≡◌, Some, Option}
use Rattle.lexer.specs.Base.{pick, byte}
use Rattle.record.specs.Decimal.{decimal}

-- The value of the digits at the front of some bytes, behind a number so far; digits behind one that is above the largest count are left.
unfoldable pub leading : ℕ → List ℕ → ℕ
leading n [] = n
leading n (b ∷ r) = let more = leading (n * 10 + (b - byte "0")) r in pick (leb (byte "0") b && leb b (byte "9") && leb n 1048576) more n

-- A number that stands at a place, ended by LF.
pub record NumberStands (b : List ℕ) (i v j : ℕ) : Type 0 where
  pub few : v ≤ 1048576
  pub here : drop i b ≡ decimal v ++ (10 ∷ drop j b)
  pub end : j ≡ i + length (decimal v) + 1

-- If the answer is a number and an end, that number stands there; and if a number that is no larger than the largest count stands there, it is the answer.
pub record NumberJudged (b : List ℕ) (i : ℕ) (r : Option (ℕ × ℕ)) : Type 0 where
  pub found : (v j : ℕ) → r ≡ Some (v, j) → NumberStands b i v j
  pub all : (v : ℕ) (rest : List ℕ) → v ≤ 1048576 → drop i b ≡ decimal v ++ (10 ∷ rest) → r ≡ Some (v, (i + length (decimal v) + 1))
