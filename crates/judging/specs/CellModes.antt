-- Cells read byte by byte: what was read of the cell that is open is a mode, and each byte leads from one mode to the next.
use Rattle.std.specs.Prelude.{ℕ, ◌+◌, ◌*◌, ◌-◌, ◌<◌, eqb, leb, ltb, length, drop, get_or, Bool, true, false, ◌&&◌, ◌||◌, List, [], ◌∷◌, ◌++◌, ◌≡◌, Some, None, Option}
use Rattle.judging.specs.declared.cells.Mode.{Mode}
use Rattle.judging.specs.declared.cells.Walk.{Walk}
use Rattle.lexer.specs.Base.{pick, among, byte}

-- Is the byte a digit?
unfoldable pub is_digit : ℕ → Bool
is_digit b = leb (byte "0") b && leb b (byte "9")

-- May a cell end in this mode?
unfoldable pub ends : Mode → Bool
ends Mode.Fresh = false
ends Mode.Whole = true
ends (Mode.Opened low) = false
ends (Mode.Index set low n) = leb low n
ends Mode.Wrong = false

-- The mode behind a blank.
unfoldable pub next : Mode → Mode
next m = pick (ends m) Mode.Fresh Mode.Wrong

-- The mode behind the first digit of an index: it is below the count.
unfoldable pub begun : ℕ → Bool → ℕ → ℕ → Mode
begun count set low b = let n = b - byte "0" in pick (ltb n count) (Mode.Index set low n) Mode.Wrong

-- The mode behind a further digit of an index: it did not begin with 0, and is still below the count.
unfoldable pub grown : ℕ → Bool → ℕ → ℕ → ℕ → Mode
grown count set low n b =
    let m = n * 10 + (b - byte "0") in
    let more = pick (ltb m count) (Mode.Index set low m) Mode.Wrong in
    pick (eqb n 0) Mode.Wrong more

-- The mode behind a byte that is no blank: at the beginning of a cell, at the beginning of an index of a set, and in an index.
unfoldable pub step_fresh : ℕ → ℕ → Mode
step_fresh count b =
    pick (is_digit b) (begun count false 0 b)
    (pick (eqb b (byte "u") || eqb b (byte "p")) (Mode.Opened 0) (pick (eqb b (byte "m") || eqb b (byte "g")) Mode.Whole Mode.Wrong))

unfoldable pub step_opened : ℕ → ℕ → ℕ → Mode
step_opened count low b = pick (is_digit b) (begun count true low b) Mode.Wrong

unfoldable pub step_index : ℕ → Bool → ℕ → ℕ → ℕ → Mode
step_index count set low n b =
    pick (is_digit b) (grown count set low n b) (pick (set && eqb b (byte ".") && leb low n && ltb n count) (Mode.Opened (n + 1)) Mode.Wrong)

unfoldable pub within : ℕ → Mode → ℕ → Mode
within count Mode.Fresh b = step_fresh count b
within count Mode.Whole b = Mode.Wrong
within count (Mode.Opened low) b = step_opened count low b
within count (Mode.Index set low n) b = step_index count set low n b
within count Mode.Wrong b = Mode.Wrong

-- The mode behind a byte, and behind several.
unfoldable pub step : ℕ → Mode → ℕ → Mode
step count m b = pick (eqb b (byte " ")) (next m) (within count m b)

unfoldable pub run : ℕ → Mode → List ℕ → Mode
run count m [] = m
run count m (b ∷ r) = run count (step count m b) r

-- How many blanks there are.
unfoldable pub blanks : List ℕ → ℕ
blanks [] = 0
blanks (b ∷ r) = let more = blanks r in pick (eqb b (byte " ")) (more + 1) more

-- A walk went on from one place to another over bytes without LF.
pub record Moves (b : List ℕ) (count : ℕ) (from to : Walk) : Type 0 where
  pub read : List ℕ
  pub here : drop from.at b ≡ read ++ drop to.at b
  pub ahead : to.at ≡ from.at + length read
  pub mode : to.mode ≡ run count from.mode read
  pub blanks : to.blanks ≡ from.blanks + blanks read
  pub gap : to.gap ≡ from.gap || among (byte "g") read
  pub line : among (byte "\n") read ≡ false

-- A cell of one byte and a blank stand at a place.
pub record Whole (b : List ℕ) (at count : ℕ) : Type 0 where
  pub inside : at + 1 < length b
  pub blank : get_or b (at + 1) 0 ≡ byte " "
  pub whole : ends (step count Mode.Fresh (get_or b at 0)) ≡ true

-- What a row that ends in a mode, behind so many blanks, is judged to be.
unfoldable pub row_end : ℕ → Mode → ℕ → Bool → ℕ → Option (ℕ × Bool)
row_end end m blanks gap characters = pick (ends m && eqb (blanks + 1) characters) (Some (end, gap)) None
