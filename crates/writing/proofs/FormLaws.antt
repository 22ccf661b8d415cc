-- What the shape of a record says of its written form's parts. Assumes nothing.
use Prim.Native.Nat.{ℕ, ◌≤◌}
use Rattle.block.specs.Reading.{Reading}
use Rattle.block.specs.Sound.{gap_in, most_symbols}
use Rattle.emit.specs.Puts.{Puts}
use Rattle.judging.specs.Shapes.{ShapeOf}
use Rattle.judging.specs.declared.Shape.{Shape}
use Rattle.lexer.specs.Base.{is_empty}
use Rattle.record.specs.Form.{form_dimensions, form_format, form_labels, form_assumptions, form_rows}
use Rattle.record.specs.Spell.{spell_characters}
use Rattle.writing.specs.CharacterLines.{AssumptionsPut, LabelsPut}
use Rattle.writing.specs.RowsPut.{RowsPut, form_counts}
use Rattle.writing.specs.Signs.{Signed, symbols_at}
use borrow.Author.Tests.{leb-true}
use lib.ListN.{length}
use lib.Seq.{take-append_seam}
use mathlib.Core.Bool.{Bool, true, false, false≢true}
use mathlib.Core.List.{List, [], ◌∷◌}
use mathlib.Core.Path.{◌≡◌, sym}
use native.Mathlib.Omega.{arith}

-- There are at most 73 symbols.
most-few : (g : Bool) → most_symbols g ≤ 73
unfolding most_symbols
most-few true = omega arith
most-few false = omega arith

-- A list that is not empty has an element.
some_one : {X : Type 0} (l : List X) → is_empty l ≡ false → 1 ≤ length l
unfolding is_empty
some_one [] h = absurd (false≢true (sym h))
some_one (x ∷ l) h = omega arith

module _ (b : List ℕ) (s : Shape) (x : Reading) (of : ShapeOf b s x) where
  -- The symbols of the reading stand where the shape says, and are few.
  shape-symbols : symbols_at b s ≡ x.symbols
  shape-symbols = rw (of.states, of.symbols.1) (take-append_seam x.symbols (10 ∷ of.symbols.0))

  shape-few : length (symbols_at b s) ≤ 74
  shape-few =
      let most = leb-true (length x.symbols) (most_symbols (gap_in x.taxa)) of.sound.symbols_most in
      let few = most-few (gap_in x.taxa) in
      rw shape-symbols (omega arith)

  -- DIMENSIONS and FORMAT by the shape are those of the reading.
  pub shape-dimensions : (behind : List ℕ) → form_counts s.taxa.0 s.characters.0 behind ≡ form_dimensions x behind
  unfolding form_counts form_dimensions
  shape-dimensions behind = rw (of.taxa, of.characters)

  pub shape-format : (behind : List ℕ) → form_format s.data_type (symbols_at b s) s.gaps behind ≡ form_format x.data_type x.symbols (gap_in x.taxa) behind
  shape-format behind = rw (of.data_type, shape-symbols, of.gaps)

  -- Rows by the signs of the shape are those of the reading.
  pub shape-rows : (signs : List ℕ) {before after : List ℕ} {n next : ℕ} → (length (symbols_at b s) ≤ 74 → Signed s.data_type (symbols_at b s) signs)
      → RowsPut b signs s.taxa.0 s.rows before n after next → Puts before n (form_rows x.data_type x.symbols x.taxa) after next
  shape-rows signs table rows =
      rows x.data_type x.symbols (rw (of.data_type, shape-symbols) at (table shape-few)) (length x.characters) x.taxa (spell_characters 1 x.characters []) (sym of.taxa)
      (record { some = some_one x.characters of.sound.some_character; long = of.sound.rows_long; sound = of.sound.cells_sound; here = of.rows })

  -- Labels and types likewise.
  pub shape-labels : {before after : List ℕ} {n next : ℕ} → LabelsPut b s before n after next → Puts before n (form_labels x.characters) after next
  shape-labels p = p x.characters of.lines of.characters of.labels

  pub shape-assumptions : {before after : List ℕ} {n next : ℕ} → AssumptionsPut b s before n after next → Puts before n (form_assumptions x.characters) after next
  shape-assumptions p = p x.characters of.lines of.characters of.ordered
