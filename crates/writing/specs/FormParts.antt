-- The parts of a record's written form, each put where the record of a reading stands.
use Rattle.std.specs.Prelude.{ℕ, List, ◌++◌}
use Rattle.block.specs.Reading.{Reading}
use Rattle.block.specs.Sound.{gap_in}
use Rattle.emit.specs.Puts.{Puts}
use Rattle.judging.specs.Shapes.{ShapeOf}
use Rattle.judging.specs.declared.Shape.{Shape}
use Rattle.lexer.specs.Base.{bytes}
use Rattle.record.specs.Form.{form_dimensions, form_format, form_labels, form_rows}
use Rattle.writing.specs.Signs.{SignsMade}

-- The commands in front of the matrix.
unfoldable pub form_head : Reading → List ℕ → List ℕ
form_head r behind =
    bytes "#NEXUS\nBEGIN DATA;\n" ++ form_dimensions r (form_format r.data_type r.symbols (gap_in r.taxa) (form_labels r.characters behind))

-- The matrix, and the end of its block.
unfoldable pub form_matrix : Reading → List ℕ → List ℕ
form_matrix r behind = bytes "MATRIX\n" ++ form_rows r.data_type r.symbols r.taxa (bytes ";\nEND;\n" ++ behind)

-- Where the record of a reading stands and has this shape, and these are its signs, a part of its form is put.
abbrev pub PartPut : (Reading → List ℕ → List ℕ) → List ℕ → Shape → ℕ → ℕ → List ℕ → ℕ → List ℕ → ℕ → Type 0
PartPut piece b s missing gap before n after next = (x : Reading) → ShapeOf b s x → SignsMade b s missing gap → Puts before n (piece x) after next
