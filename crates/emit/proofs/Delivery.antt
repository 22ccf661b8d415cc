-- A piece delivered: the place behind it, where it is put into a scratch, measures it, and where it has room it stands in the buffer whole. Assumes
-- nothing.
use Rattle.std.specs.Prelude.{Ok, Err}
use Prim.Native.Nat.{ℕ, ◌≤◌, ◌<◌, ◌^◌, min}
use Rattle.emit.proofs.PutLaws.{puts-measured, puts_whole}
use Rattle.emit.specs.Delivered.{Delivered}
use Rattle.emit.specs.Puts.{Puts, last_place}
use Rattle.lexer.specs.Base.{pick}
use Rattle.lexer.specs.Places.{nowhere}
use Rattle.lexer.specs.declared.refusal.Refusal.{Refusal}
use Rattle.record.specs.Calls.{bytes_of, answer, leaves}
use Rattle.lexer.specs.Refusals.{fault}
use borrow.Author.Tests.{leb-true, le-leb, lt-leb}
use lib.Dec.{leb}
use lib.ListN.{length}
use mathlib.Core.Bool.{true, false}
use mathlib.Core.List.{List, []}
use mathlib.Core.Path.{◌≡◌, sym, ap, ◌∙◌}
use native.Mathlib.Omega.{arith}

-- A piece that is known to have room is put, and the place behind it is its length.
pub roomy-delivered : (piece : List ℕ → List ℕ) (buffer : List ℕ) → length buffer < 2 ^ 63 → min last_place (length (piece [])) ≤ length buffer → {left : List ℕ} {m : ℕ} → Puts buffer 0 piece left m
    → Delivered (bytes_of (piece [])) buffer left (Ok m)
unfolding answer leaves pick last_place
roomy-delivered piece buffer small room {left} {m} put =
    let fits : length (piece []) ≤ length buffer = omega arith in
    let whole = puts_whole buffer left piece m put fits small in
    let size : m ≡ length (piece []) = omega (arith, put.reached []) in
    let test : leb (length (piece [])) (length buffer) ≡ true = le-leb (length (piece [])) (length buffer) fits in
    record { answered = rw test (ap Ok size); left = rw test whole.0 }

module _ (piece : List ℕ → List ℕ) (buffer : List ℕ) (small : length buffer < 2 ^ 63) {scratch after : List ℕ} {n : ℕ} (measured : Puts scratch 0 piece after n) where
  -- The place behind a piece tells whether it fits.
  measured-fits : leb n (length buffer) ≡ leb (length (piece [])) (length buffer)
  measured-fits = puts-measured measured (length buffer) small

  -- A piece that does not fit is refused, and the buffer stays as it was.
  pub short-delivered : length buffer < n → Delivered (bytes_of (piece [])) buffer buffer (Err (fault Refusal.BufferShort nowhere))
  unfolding answer leaves pick
  short-delivered h =
      let long : leb (length (piece [])) (length buffer) ≡ false = sym measured-fits ∙ lt-leb n (length buffer) h in
      record { answered = rw long; left = rw long }

  -- One that fits is put, and its length is answered.
  pub whole-delivered : n ≤ length buffer → {left : List ℕ} {m : ℕ} → Puts buffer 0 piece left m → Delivered (bytes_of (piece [])) buffer left (Ok n)
  unfolding answer leaves pick last_place
  whole-delivered h {left} {m} put =
      let fits : leb (length (piece [])) (length buffer) ≡ true = sym measured-fits ∙ le-leb n (length buffer) h in
      let whole = puts_whole buffer left piece m put (leb-true _ _ fits) small in
      let size : n ≡ length (piece []) = omega (arith, measured.reached [], leb-true (length (piece [])) (length buffer) fits) in
      record { answered = rw fits (ap Ok size); left = rw fits whole.0 }
