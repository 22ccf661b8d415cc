-- A taxon's cells by name: where they stand in a record.
use Rattle.std.specs.Prelude.{ℕ, ◌+◌, length, List, [], ◌∷◌}
use Rattle.std.proofs.Math.Option.{Option, none, some}
use Rattle.lexer.specs.Base.{pick, alike}
use Rattle.block.specs.Reading.{Taxon, Reading}
use Rattle.record.specs.Spell.{line, escaped, spell_head, spell_cells}

-- A part of a record: its first byte and its length.
pub record Stretch : Type 0 where
  pub start : ℕ
  pub size : ℕ

-- How many bytes of a taxon stand before its cells: its line `name=`, and the key `cells=`.
unfoldable pub before_cells : Taxon → ℕ
before_cells t = length (line "name=" (escaped t.name) []) + 6

-- The cells of the taxon with a name, ASCII case ignored, where the first of these taxa stands at a byte of the record.
unfoldable pub find_cells : List ℕ → ℕ → List Taxon → Option Stretch
find_cells name at [] = none
find_cells name at (t ∷ r) =
    let start = at + before_cells t in
    let size = length (spell_cells t.cells) in
    let found : Option Stretch = some (record { start = start; size = size }) in
    let more = find_cells name (start + size + 1) r in
    pick (alike name t.name) found more

unfoldable pub lookup : List ℕ → Reading → Option Stretch
lookup name r = find_cells name (length (spell_head r [])) r.taxa
