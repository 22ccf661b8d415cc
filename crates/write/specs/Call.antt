-- What the write call answers and what it leaves.
use Rattle.std.specs.Prelude.{ℕ, length, List, ◌≡◌, Result}
use Rattle.block.specs.Reading.{Reading}
use Rattle.emit.specs.Delivered.{Delivered}
use Rattle.judging.specs.Shapes.{ShapeOf}
use Rattle.judging.specs.declared.Shape.{Shape}
use Rattle.record.specs.Calls.{written, write_answer, write_leaves}
use Rattle.std.proofs.Math.Option.{some}
use Rattle.lexer.specs.declared.Fault.{Fault}
use Rattle.lexer.specs.declared.Place.{Place}

-- If the bytes are the record of a reading and have this shape, its form is delivered, or the refusal that it is too long.
abbrev pub FormDelivered : List ℕ → Shape → List ℕ → List ℕ → Result ℕ (Fault Place) → Type 0
FormDelivered b s before after r = (x : Reading) → ShapeOf b s x → Delivered (written (some x)) before after r

-- The write call: its answer, and what it leaves in the buffer.
pub record WriteCall (b buffer after : List ℕ) (r : Result ℕ (Fault Place)) : Type 0 where
  pub answer : r ≡ write_answer b (length buffer)
  pub left : after ≡ write_leaves b buffer
