-- The written form of a record that stands in bytes, put into a buffer.
use Rattle.std.specs.Prelude.{ℕ, ◌+◌, length, drop, List, ◌∷◌, ◌++◌, ◌≡◌}
use Rattle.block.specs.Reading.{Reading}
use Rattle.block.specs.Sound.{gap_in}
use Rattle.emit.specs.Puts.{Puts}
use Rattle.judging.specs.Shapes.{ShapeOf}
use Rattle.judging.specs.declared.Shape.{Shape}
use Rattle.lexer.specs.Base.{byte, bytes}
use Rattle.record.specs.Form.{quoted, form_assumptions, form_dimensions, form_format, form_labels, form_rows}
use Rattle.record.specs.Spell.{escaped}
use Rattle.writing.specs.declared.Putting.{Putting}

-- The written form of a reading, in front of what stands behind it.
unfoldable pub form_piece : Reading → List ℕ → List ℕ
form_piece r behind =
    bytes "#NEXUS\nBEGIN DATA;\n"
    ++ form_dimensions r
    (form_format r.data_type r.symbols (gap_in r.taxa)
    (form_labels r.characters
    (bytes "MATRIX\n"
    ++ form_rows r.data_type r.symbols r.taxa
    (bytes ";\nEND;\n" ++ form_assumptions r.characters behind))))

-- A line's text, read from a place of the record on, was put: the next place of the record is behind its LF, and the next of the buffer behind the piece.
pub record PutLine (b : List ℕ) (at : ℕ) (line : List ℕ) (before : List ℕ) (n : ℕ) (piece : List ℕ → List ℕ) (after : List ℕ) (r : Putting) : Type 0 where
  pub next : r.at ≡ at + length line + 1
  pub put : Puts before n piece after r.n

-- Where a name and an LF stand, the name is put in quotes.
abbrev pub QuotedPut : List ℕ → ℕ → List ℕ → ℕ → List ℕ → Putting → Type 0
QuotedPut b at before n after r =
    (name rest : List ℕ) → drop at b ≡ escaped name ++ (byte "\n" ∷ rest) → PutLine b at (escaped name) before n (quoted name) after r

-- Where the record of a reading stands and has this shape, its form is put.
abbrev pub FormPut : List ℕ → Shape → List ℕ → ℕ → List ℕ → ℕ → Type 0
FormPut b s before n after next = (x : Reading) → ShapeOf b s x → Puts before n (form_piece x) after next
