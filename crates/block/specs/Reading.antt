-- The reading of a text: what the rules make of its bytes.
use Rattle.std.specs.Prelude.{ℕ, List}
use Rattle.block.specs.Cell.{Cell}
use Rattle.block.specs.declared.data.DataType.{DataType}
use Rattle.block.specs.declared.model.CharacterOrdering.{CharacterOrdering}

pub record Taxon : Type 0 where
  pub name : List ℕ
  pub cells : List Cell

-- A character: its label, empty if it has none; its state labels in order; its type.
pub record Character : Type 0 where
  pub label : List ℕ
  pub states : List (List ℕ)
  pub ordering : CharacterOrdering

pub record Reading : Type 0 where
  pub data_type : DataType
  pub symbols : List ℕ
  pub taxa : List Taxon
  pub characters : List Character
