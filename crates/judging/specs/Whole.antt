-- A record judged up to its characters.
use Rattle.std.specs.Prelude.{ℕ, ltb, Bool, true, false, ◌&&◌, List, ◌≡◌, Some}
use Rattle.block.specs.declared.data.DataType.{DataType}
use Rattle.judging.specs.Parts.{RowsTold}
use Rattle.judging.specs.declared.heads.Head.{Head}
use Rattle.naming.specs.Rows.{NamesJudged}

unfoldable pub is_dna : DataType → Bool
is_dna DataType.Standard = false
is_dna DataType.Dna = true

-- The rows behind the first four lines stand from one place up to another, their names differ, and there are not too many symbols beside a gap.
pub record RowsFine (b : List ℕ) (i j : ℕ) (h : Head) (gaps : Bool) : Type 0 where
  pub rows : RowsTold b i h.taxa.0 h.characters.0 h.states (Some (j, gaps))
  pub room : gaps && ltb 72 h.states ≡ false
  pub differ : NamesJudged b i h.taxa.0 h.characters.0 true
