-- What the shape of a record says of it.
use Rattle.std.specs.Prelude.{ℕ, length, drop, List, [], ◌∷◌, ◌++◌, ◌≡◌, Some, None, Option}
use Rattle.block.specs.Blocks.{has_ordered}
use Rattle.block.specs.Reading.{Reading}
use Rattle.block.specs.Sound.{Sound, gap_in}
use Rattle.judging.specs.declared.Shape.{Shape}
use Rattle.lexer.specs.Base.{byte}
use Rattle.record.specs.Form.{labelled}
use Rattle.record.specs.Spell.{spell, spell_head, spell_taxa, spell_characters}
use Rattle.record.specs.Unspell.{unspell}
use Rattle.std.proofs.Math.Option.{none, some}

-- A shape is that of a reading's record.
pub record ShapeOf (b : List ℕ) (s : Shape) (r : Reading) : Type 0 where
  pub spelled : b ≡ spell r
  pub sound : Sound r
  pub data_type : s.data_type ≡ r.data_type
  pub taxa : s.taxa.0 ≡ length r.taxa
  pub characters : s.characters.0 ≡ length r.characters
  pub states : s.states ≡ length r.symbols
  pub symbols : (rest : List ℕ) × (drop s.symbols b ≡ r.symbols ++ (byte "\n" ∷ rest))
  pub head : s.rows ≡ length (spell_head r [])
  pub rows : drop s.rows b ≡ spell_taxa r.taxa (spell_characters 1 r.characters [])
  pub lines : drop s.lines b ≡ spell_characters 1 r.characters []
  pub gaps : s.gaps ≡ gap_in r.taxa
  pub labels : s.labelled ≡ labelled r.characters
  pub ordered : s.ordered ≡ has_ordered r.characters

-- If the answer is a shape, the bytes are the record of a reading, and it is that record's shape; if it is none, they are none.
pub record RecordJudged (b : List ℕ) (answer : Option Shape) : Type 0 where
  pub found : (s : Shape) → answer ≡ Some s → (r : Reading) × (unspell b ≡ some r) × ShapeOf b s r
  pub none : answer ≡ None → unspell b ≡ none
