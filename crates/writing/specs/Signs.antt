-- The signs of the written form, by the bytes of a record's cells.
use Rattle.std.specs.Prelude.{ℕ, ◌-◌, ◌<◌, ◌≤◌, eqb, leb, length, get_or, take, drop, ◌&&◌, List, ◌≡◌}
use Rattle.block.specs.declared.data.DataType.{DataType}
use Rattle.judging.specs.declared.Shape.{Shape}
use Rattle.lexer.specs.Base.{pick, byte}
use Rattle.record.specs.Form.{sign, missing_sign, gap_sign}

-- The symbols of a record that has a shape.
abbrev pub symbols_at : List ℕ → Shape → List ℕ
symbols_at b s = take s.states (drop s.symbols b)

-- These are the signs of missing and of a gap.
pub record SignsMade (b : List ℕ) (s : Shape) (missing gap : ℕ) : Type 0 where
  pub of_missing : missing ≡ missing_sign s.data_type (symbols_at b s)
  pub of_gap : gap ≡ gap_sign s.data_type (symbols_at b s)

-- The sign of a cell that is one byte, by the signs of missing and of a gap and the symbols: of a digit that symbol, of `m` and `g` theirs; 0 for no
-- such cell. From 128 on, the symbol of an index.
unfoldable pub sign_by : ℕ → ℕ → List ℕ → ℕ → ℕ
sign_by missing gap symbols b =
    pick (leb (byte "0") b && leb b (byte "9")) (sign symbols (b - byte "0"))
    (pick (eqb b (byte "m")) missing (pick (eqb b (byte "g")) gap (pick (leb 128 b) (sign symbols (b - 128)) 0)))

unfoldable pub sign_of : DataType → List ℕ → ℕ → ℕ
sign_of t symbols b = sign_by (missing_sign t symbols) (gap_sign t symbols) symbols b

-- A table holds the signs of some symbols.
pub record Signed (t : DataType) (symbols signs : List ℕ) : Type 0 where
  pub few : length symbols ≤ 74
  pub each : (b : ℕ) → b < 256 → get_or signs b 0 ≡ sign_of t symbols b
