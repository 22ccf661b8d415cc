-- DIMENSIONS: the options NTAX and NCHAR, each with `=` and a positive number, and NEWTAXA, in any order.
use Rattle.std.specs.Prelude.{ℕ, zero, suc, Bool, true, false, ◌&&◌, not, List}
use Rattle.block.specs.Outcome.{Outcome, done, refused, then, fold}
use Rattle.block.specs.declared.dimension.Count.{Count}
use Rattle.block.specs.declared.dimension.Dimensioning.{Dimensioning}
use Rattle.block.specs.declared.dimension.Dimensions.{Dimensions}
use Rattle.lexer.specs.Base.{pick, bytes, byte}
use Rattle.lexer.specs.Words.{Numbered, is, punct, number}
use Rattle.lexer.specs.declared.refusal.Refusal.{Refusal}

-- What was declared: NTAX, NCHAR, each 0 where it was not given, and NEWTAXA.
unfoldable pub dimensions_of : ℕ → ℕ → Bool → Dimensions
dimensions_of n c new = record { taxa = n; characters = c; new_taxa = new }

unfoldable pub no_dimensions : Dimensions
no_dimensions = dimensions_of 0 0 false

-- The two options that take a value.
unfoldable pub count : Count → Dimensions → ℕ
count Count.Taxa d = d.taxa
count Count.Characters d = d.characters

unfoldable pub with_count : Count → ℕ → Dimensions → Dimensions
with_count Count.Taxa n d = dimensions_of n d.characters d.new_taxa
with_count Count.Characters n d = dimensions_of d.taxa n d.new_taxa

-- A count that was given already is refused before its `=` is looked for.
unfoldable pub count_option : Dimensions → Numbered → Count → ℕ → Outcome Dimensioning
count_option d w c zero = done (Dimensioning.Equals d c w.index)
count_option d w c (suc n) = refused Refusal.Dimension w.index

unfoldable pub dimension_option : Dimensions → Numbered → Outcome Dimensioning
dimension_option d w =
    pick (is (bytes "NEWTAXA") w && not d.new_taxa) (done (Dimensioning.Option (dimensions_of d.taxa d.characters true)))
    (pick (is (bytes "NTAX") w) (count_option d w Count.Taxa d.taxa)
    (pick (is (bytes "NCHAR") w) (count_option d w Count.Characters d.characters)
    (refused Refusal.Dimension w.index)))

unfoldable pub dimension_value : Dimensions → Count → Numbered → ℕ → Outcome Dimensioning
dimension_value d c w zero = refused Refusal.Dimension w.index
dimension_value d c w (suc n) = done (Dimensioning.Option (with_count c (suc n) d))

-- One word more, wherever the command is: at an option, at its `=`, or at its value.
unfoldable pub dimension_turn : Dimensioning → Numbered → Outcome Dimensioning
dimension_turn (Dimensioning.Option d) w = dimension_option d w
dimension_turn (Dimensioning.Equals d c i) w = pick (punct (byte "=") w) (done (Dimensioning.Value d c i)) (refused Refusal.NoValue i)
dimension_turn (Dimensioning.Value d c i) w = dimension_value d c w (number w)

unfoldable pub dimension_end : Dimensioning → Outcome Dimensions
dimension_end (Dimensioning.Option d) = done d
dimension_end (Dimensioning.Equals d c i) = refused Refusal.NoValue i
dimension_end (Dimensioning.Value d c i) = refused Refusal.NoValue i

-- The dimensions that the words behind DIMENSIONS declare.
unfoldable pub dimensions : List Numbered → Outcome Dimensions
dimensions ws = then (fold dimension_turn (Dimensioning.Option no_dimensions) ws) dimension_end
