-- What the end of a text comes to, and the tests that it is judged by.
use Rattle.std.specs.Prelude.{ℕ, Bool, true, false, ◌||◌, List, [], ◌∷◌, Ok, Err, Result}
use Rattle.block.specs.Blocks.{is_ordered}
use Rattle.block.specs.Outcome.{Outcome, done, refused}
use Rattle.block.specs.Reading.{Reading}
use Rattle.block.specs.Typeset.{Types}
use Rattle.block.specs.declared.data.DataType.{DataType}
use Rattle.block.specs.declared.model.CharacterOrdering.{CharacterOrdering}
use Rattle.commands.specs.MatrixHeld.{reading_held}
use Rattle.std.proofs.Math.Option.{get_or}
use Rattle.lexer.specs.declared.Fault.{Fault}
use Rattle.commands.specs.declared.state.Held.{Held}

-- The reading of the matrix that work memory holds, or the refusal.
unfoldable pub parsed_held : List ℕ → List ℕ → ℕ → Result Held (Fault ℕ) → Outcome Reading
parsed_held text work count (Ok h) = done (reading_held text work count h)
parsed_held text work count (Err f) = refused f.0 f.1

-- Is one of these types ordered, where no type is the default?
unfoldable pub types_ordered : CharacterOrdering → Types → Bool
types_ordered o [] = false
types_ordered o (t ∷ ts) = let more = types_ordered o ts in is_ordered (get_or t o) || more

unfoldable pub is_dna : DataType → Bool
is_dna DataType.Standard = false
is_dna DataType.Dna = true
