-- FORMAT by the type of the data. Assumes nothing.
use Prim.Native.Nat.{ℕ}
use Rattle.block.specs.declared.data.DataType.{DataType}
use Rattle.lexer.specs.Base.{bytes}
use Rattle.record.specs.Form.{form_format, gap_sign, missing_sign}
use Rattle.writing.specs.RowsPut.{form_standard}
use mathlib.Core.Bool.{Bool}
use mathlib.Core.List.{List, ◌++◌}
use mathlib.Core.Path.{◌≡◌}

-- FORMAT of a record with its own symbols, and of one of DNA.
module _ (t : DataType) (symbols : List ℕ) (gaps : Bool) where
  pub format-standard : {missing gap : ℕ} → t ≡ DataType.Standard → missing ≡ missing_sign t symbols → gap ≡ gap_sign t symbols → (behind : List ℕ)
      → form_standard missing gap symbols gaps behind ≡ form_format t symbols gaps behind
  unfolding form_standard form_format
  format-standard e m g behind = rw (m, g, e)

  pub format-dna : t ≡ DataType.Dna → (behind : List ℕ) → bytes "FORMAT DATATYPE=DNA MISSING=? GAP=-;\n" ++ behind ≡ form_format t symbols gaps behind
  unfolding form_format
  format-dna e behind = rw e
