-- The form of a record: measured, it is too long, has no room, or is put; and the call comes to what judging says. Assumes nothing.
use Rattle.std.specs.Prelude.{Some, None, Ok, Err, Option, Result}
use Prim.Native.Nat.{ℕ, ◌≤◌, ◌<◌, ◌^◌}
use Rattle.block.specs.Reading.{Reading}
use Rattle.emit.proofs.Delivery.{short-delivered, whole-delivered}
use Rattle.emit.proofs.PutLaws.{puts-measured}
use Rattle.emit.specs.Delivered.{Delivered}
use Rattle.emit.specs.Puts.{Puts}
use Rattle.judging.specs.Shapes.{RecordJudged}
use Rattle.judging.specs.declared.Shape.{Shape}
use Rattle.lexer.proofs.Basics.{pick_first, pick_second}
use Rattle.lexer.specs.Lexing.{longest}
use Rattle.lexer.specs.Places.{nowhere}
use Rattle.lexer.specs.declared.refusal.Refusal.{Refusal}
use Rattle.record.specs.Calls.{bytes_of, refuse, answer, leaves, written, write_answer, write_leaves, write_result}
use Rattle.record.specs.Form.{form}
use Rattle.write.specs.Call.{FormDelivered, WriteCall}
use Rattle.writing.specs.FormPut.{form_piece}
use Rattle.lexer.specs.declared.Fault.{Fault}
use Rattle.lexer.specs.Refusals.{fault}
use Rattle.lexer.specs.declared.Place.{Place}
use borrow.Author.Tests.{le-leb, lt-leb}
use lib.Dec.{leb}
use lib.ListN.{length}
use mathlib.Core.Bool.{false}
use mathlib.Core.List.{List}
use mathlib.Core.Option.{some}
use mathlib.Core.Path.{◌≡◌, refl, sym, ◌∙◌}
use native.Mathlib.Omega.{arith}

module _ (x : Reading) (buffer : List ℕ) (small : length buffer < 2 ^ 63) {scratch after : List ℕ} {n : ℕ} (measured : Puts scratch 0 (form_piece x) after n) where
  -- The place behind the form tells whether it is too long.
  form-fits : leb n longest ≡ leb (length (form x)) longest
  unfolding form_piece form longest
  form-fits = puts-measured measured longest (omega arith)

  -- It is.
  pub long-delivered : 1048576 < n → Delivered (written (some x)) buffer buffer (Err (fault Refusal.FormTooLong nowhere))
  unfolding written refuse answer leaves longest
  long-delivered long =
      let over : leb (length (form x)) longest ≡ false = sym form-fits ∙ lt-leb n longest long in
      let is : written (some x) ≡ refuse Refusal.FormTooLong = pick_second (leb (length (form x)) longest) (bytes_of (form x)) (refuse Refusal.FormTooLong) over in
      rw is (record { answered = refl; left = refl })

  -- It is not: the call comes to the bytes of the form.
  form-result : n ≤ 1048576 → written (some x) ≡ bytes_of (form x)
  unfolding written longest
  form-result fits = pick_first (leb (length (form x)) longest) (bytes_of (form x)) (refuse Refusal.FormTooLong) (sym form-fits ∙ le-leb n longest fits)

  -- It has no room.
  pub form-short : n ≤ 1048576 → length buffer < n → Delivered (written (some x)) buffer buffer (Err (fault Refusal.BufferShort nowhere))
  unfolding form_piece form
  form-short fits h = rw (form-result fits) (short-delivered (form_piece x) buffer small measured h)

  -- It has room, and is put.
  pub form-whole : n ≤ 1048576 → n ≤ length buffer → {left : List ℕ} {m : ℕ} → Puts buffer 0 (form_piece x) left m → Delivered (written (some x)) buffer left (Ok n)
  unfolding form_piece form
  form-whole fits h put = rw (form-result fits) (whole-delivered (form_piece x) buffer small measured h put)

module _ (b buffer : List ℕ) (j : Option Shape) (judged : RecordJudged b j) where
  -- Bytes that are a record are written as their form.
  pub record-written : (s : Shape) → j ≡ Some s → (after : List ℕ) (r : Result ℕ (Fault Place)) → FormDelivered b s buffer after r → WriteCall b buffer after r
  unfolding write_answer write_leaves write_result
  record-written s is after r delivered =
      let (x, reads, shape) = judged.found s is in
      let d = delivered x shape in
      record { answer = rw reads d.answered; left = rw reads d.left }

  -- Others are refused.
  pub nothing_written : j ≡ None → WriteCall b buffer buffer (Err (fault Refusal.NotRecord nowhere))
  unfolding write_answer write_leaves write_result written refuse answer leaves
  nothing_written is = let reads = judged.none is in record { answer = rw reads refl; left = rw reads refl }
