-- Cells of one byte each among those of a text, from a place on, and what it means to put them behind those of a row.
use Rattle.std.specs.Prelude.{ℕ, ◌+◌, ◌*◌, ◌-◌, ◌≤◌, ◌<◌, get_or, take, drop, true, List, ◌≡◌}
use Rattle.emit.specs.Puts.{Puts}
use Rattle.reading.specs.CodedCells.{RowPut, cell_byte, cells_coded}
use Rattle.reading.specs.Pieces.{spell_on}
use Rattle.reading.specs.declared.cells.Putting.{Putting}

-- The cells of the bytes from a place up to another are of one byte each; it is no further than an end, and there or at the first cell that is not.
pub record ShortRun (codes text : List ℕ) (from end stop : ℕ) : Type 0 where
  pub ahead : from ≤ stop
  pub within : stop ≤ end
  pub short : (k : ℕ) → from ≤ k → k < stop → cell_byte (get_or codes (get_or text k 0) 0) ≡ 0 → ⊥
  pub stopped : stop < end → cell_byte (get_or codes (get_or text stop 0) 0) ≡ 0

-- The cells from a place up to another, no further than an end, are of one byte each and were put behind others of a row.
pub record ShortWrote (codes text : List ℕ) (from end : ℕ) (before : List ℕ) (at : ℕ) (after : List ℕ) (stop : ℕ) : Type 0 where
  pub ahead : from ≤ stop
  pub within : stop ≤ end
  pub short : (k : ℕ) → from ≤ k → k < stop → cell_byte (get_or codes (get_or text k 0) 0) ≡ 0 → ⊥
  pub written : Puts before at (spell_on true (cells_coded codes (take (stop - from) (drop from text)))) after (at + 2 * (stop - from))

-- The cells from a place up to where a run goes on, no further than an end, were put behind those of a row.
pub record RanPut (codes text : List ℕ) (from end : ℕ) (before : List ℕ) (row : Putting) (after : List ℕ) (r : Putting × ℕ) : Type 0 where
  pub ahead : from ≤ r.1
  pub within : r.1 ≤ end
  pub put : RowPut before row (cells_coded codes (take (r.1 - from) (drop from text))) after r.0
