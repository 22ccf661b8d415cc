-- The conditions of a reading one by one, and the test of them all, say the same. Assumes nothing.
use Rattle.block.proofs.SoundParts.{symbols-sound, names-sound, labels-sound, sound-parts}
use Rattle.block.specs.Blocks.{orderable}
use Rattle.block.specs.Interleaved.{all_long}
use Rattle.block.specs.Reading.{Reading}
use Rattle.block.specs.Sequential.{names}
use Rattle.lexer.proofs.Basics.{and_left, and_right}
use Rattle.lexer.specs.Base.{is_empty}
use Rattle.lexer.specs.Words.{largest}
use Rattle.block.specs.Sound.{Sound, sound, sound_rows, sound_symbols, gap_in, sound_names, names_differ, sound_labels, few_states}
use borrow.Author.Tests.{not-true}
use lib.Dec.{leb}
use lib.ListN.{length}
use mathlib.Core.Bool.{Bool, true, ◌&&◌, not}
use mathlib.Core.List.{List, [], ◌∷◌}
use mathlib.Core.Path.{◌≡◌}

pub sound-test : (r : Reading) → Sound r → sound r ≡ true
unfolding sound
sound-test r s =
    rw (s.some_taxon, s.some_character, s.taxa_few, s.characters_few, s.rows_long, s.cells_sound, symbols-sound r s, names-sound r s, s.names_unlike, labels-sound r s, s.states_few, s.dna_unordered)

-- A test and more of them, all of which hold.
abbrev chain : Bool → List Bool → Bool
chain a [] = a
chain a (b ∷ r) = chain (a && b) r

abbrev Each : List Bool → Type 0
Each [] = Unit {0}
Each (b ∷ r) = (b ≡ true) × Each r

chain-each : (a : Bool) (l : List Bool) → chain a l ≡ true → Each (a ∷ l)
chain-each a [] h = (h, tt)
chain-each a (b ∷ r) h =
    let e : Each ((a && b) ∷ r) = chain-each (a && b) r h in
    (and_left a b e.0, (and_right a b e.0, e.1))

pub test-sound : (r : Reading) → sound r ≡ true → Sound r
unfolding sound
test-sound r t =
    let e =
    chain-each (not (is_empty r.taxa))
    (not (is_empty r.characters)
    ∷ leb (length r.taxa) largest
    ∷ leb (length r.characters) largest
    ∷ all_long (length r.characters) r.taxa
    ∷ sound_rows (length r.symbols) r.taxa
    ∷ sound_symbols r.data_type r.symbols (gap_in r.taxa)
    ∷ sound_names (names r.taxa)
    ∷ names_differ (names r.taxa)
    ∷ sound_labels r.characters
    ∷ few_states (length r.symbols) r.characters
    ∷ orderable r.data_type r.characters
    ∷ []) t
    in
    sound-parts r (not-true _ e.0) (not-true _ e.1.0) e.1.1.0 e.1.1.1.0 e.1.1.1.1.0 e.1.1.1.1.1.0 e.1.1.1.1.1.1.0 e.1.1.1.1.1.1.1.0 e.1.1.1.1.1.1.1.1.0 e.1.1.1.1.1.1.1.1.1.0 e.1.1.1.1.1.1.1.1.1.1.0 e.1.1.1.1.1.1.1.1.1.1.1.0
