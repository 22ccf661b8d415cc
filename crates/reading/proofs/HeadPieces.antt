-- The pieces of the record's first four lines. Assumes nothing.
use Prim.Native.Nat.{ℕ}
use Rattle.block.specs.Format as F
use Rattle.block.specs.declared.data.DataType.{DataType}
use Rattle.lexer.specs.Base.{bytes}
use Rattle.reading.specs.RecordPut.{head_piece}
use Rattle.record.specs.Decimal.{decimal}
use Rattle.record.specs.Spell.{line, type_word}
use mathlib.Core.List.{List, ◌∷◌, ◌++◌}
use mathlib.Core.Path.{◌≡◌, refl}

-- The line of the data type.
module _ (t : DataType) (behind : List ℕ) where
  pub type-standard : t ≡ DataType.Standard → bytes "datatype=STANDARD\n" ++ behind ≡ line "datatype=" (type_word t) behind
  unfolding bytes line type_word
  type-standard e = rw e

  pub type-dna : t ≡ DataType.Dna → bytes "datatype=DNA\n" ++ behind ≡ line "datatype=" (type_word t) behind
  unfolding bytes line type_word
  type-dna e = rw e

-- All four lines.
pub head-lines : (f : F.Format) (taxa characters : ℕ) (behind : List ℕ)
    → line "datatype=" (type_word f.data_type)
    (bytes "taxa=" ++ (decimal taxa ++ (10 ∷ (bytes "characters=" ++ (decimal characters ++ (10 ∷ (bytes "symbols=" ++ (f.symbols ++ (10 ∷ behind)))))))))
    ≡ head_piece f taxa characters behind
unfolding head_piece line
head-lines f taxa characters behind = refl
