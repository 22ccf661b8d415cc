-- A text read and its record written, and two of them compared, by what the calls answer and leave. Assumes nothing.
use Rattle.std.specs.Prelude.{Ok, Err, Result}
use Prim.Native.Nat.{ℕ, ◌≤◌}
use Rattle.block.specs.Reading.{Reading}
use Rattle.demands.specs.Compare.{answer_then, leaves_then, formed_answer, formed_leaves, Formed, HasRoom, FormRefused, not_read, form_long, no_room, FormCase, formed, refused}
use Rattle.demands.specs.Right.{HasRecord}
use Rattle.lexer.proofs.Basics.{by-test}
use Rattle.lexer.specs.Places.{nowhere}
use Rattle.lexer.specs.Refusals.{number}
use Rattle.lexer.specs.declared.Place.{Place}
use Rattle.lexer.specs.declared.refusal.Refusal.{Refusal}
use Rattle.read.specs.Call.{ReadCall}
use Rattle.record.proofs.CallLaws.{length-refused}
use Rattle.record.proofs.Demands.{buffers-are-kept, read-gives-records, read-refuses-in-order, records-of-texts-pass, write-gives-forms, write-refuses-in-order}
use Rattle.record.specs.Calls.{read_answer, read_leaves, write_answer, write_leaves}
use Rattle.record.specs.Demands.{Kept, Left}
use Rattle.record.specs.Form.{form}
use Rattle.record.specs.Spell.{spell}
use Rattle.record.specs.Unspell.{unspell}
use Rattle.write.specs.Call.{WriteCall}
use Rattle.lexer.specs.declared.Fault.{Fault}
use Rattle.lexer.specs.Refusals.{fault}
use borrow.Author.Tests.{leb-true, leb-false}
use lib.Dec.{leb}
use lib.ListN.{length, take}
use mathlib.Core.List.{List}
use mathlib.Core.Option.{some}
use mathlib.Core.Path.{◌≡◌, refl, sym, ap, ◌∙◌}
use native.Mathlib.Omega.{arith}

-- The bytes of a length that read answers lie in the buffer.
pub read-within : (text work work_after buffer after : List ℕ) (a : Result ℕ (Fault Place)) → ReadCall text work work_after buffer after a → (n : ℕ) → a ≡ Ok n → n ≤ length after
read-within text work work_after buffer after a call n e =
    let k = buffers-are-kept.0 text (length work) buffer in
    let h = (k.answered n (sym call.answer ∙ e)).0 in
    rw call.left (omega (arith, k.room))

module _ (text work work_after kept kept_after : List ℕ) (a : Result ℕ (Fault Place)) (call : ReadCall text work work_after kept kept_after a) (buffer : List ℕ) where
  -- Read answers a length, and the record that it left is written.
  pub record-formed : (n : ℕ) → a ≡ Ok n → (after : List ℕ) (r : Result ℕ (Fault Place)) → WriteCall (take n kept_after) buffer after r
      → Formed text work work_after kept kept_after buffer after r
  unfolding formed_answer formed_leaves answer_then leaves_then
  record-formed n e after r w =
      let told : Ok n ≡ read_answer text (length work) (length kept) = sym e ∙ call.answer in
      record {
        answer = w.answer ∙ ap (λ x. write_answer (take n x) (length buffer)) call.left ∙ ap (λ x. answer_then x (read_leaves text (length work) kept) (length buffer)) told;
        left = w.left ∙ ap (λ x. write_leaves (take n x) buffer) call.left ∙ ap (λ x. leaves_then x (read_leaves text (length work) kept) buffer) told;
        stored = call.left;
        size = call.size;
      }

  -- Read refuses the text, and nothing is written.
  pub refusal-formed : (n : Refusal) (p : Place) → a ≡ Err (fault n p) → Formed text work work_after kept kept_after buffer buffer (Err (fault n p))
  unfolding formed_answer formed_leaves answer_then leaves_then
  refusal-formed n p e =
      let told : Err (fault n p) ≡ read_answer text (length work) (length kept) = sym e ∙ call.answer in
      record {
        answer = ap (λ x. answer_then x (read_leaves text (length work) kept) (length buffer)) told;
        left = ap (λ x. leaves_then x (read_leaves text (length work) kept) buffer) told;
        stored = call.left;
        size = call.size;
      }

-- A refusal leaves the buffer for the form as it was, and success touches only the form's bytes.
then-kept : (a : Result ℕ (Fault Place)) (kept buffer : List ℕ) → Kept buffer (answer_then a kept (length buffer)) (leaves_then a kept buffer)
unfolding answer_then leaves_then
then-kept (Ok n) kept buffer = buffers-are-kept.1 (take n kept) buffer
then-kept (Err f) kept buffer = record { refused = λ n q e. refl; answered = λ n e. absurd (length-refused (sym e)); room = refl }

module _ (text work work_after kept kept_after buffer after : List ℕ) (a : Result ℕ (Fault Place)) (f : Formed text work work_after kept kept_after buffer after a) where
  pub formed-kept : Kept buffer a after
  unfolding formed_answer formed_leaves
  formed-kept = rw (f.answer, f.left) (then-kept (read_answer text (length work) (length kept)) (read_leaves text (length work) kept) buffer)

  -- The bytes of a length that is answered lie in the buffer.
  pub formed-within : (n : ℕ) → a ≡ Ok n → n ≤ length after
  formed-within n e = let h = (formed-kept.answered n e).0 in omega (arith, formed-kept.room)

  pub kept-room : length kept_after ≡ length kept
  kept-room = ap length f.stored ∙ (buffers-are-kept.0 text (length work) kept).room

  -- Read leaves the record where it has room, and write is given it.
  record-read : (s : Reading) → HasRecord text (length work) (length kept) s → Left (spell s) kept (read_answer text (length work) (length kept)) (read_leaves text (length work) kept)
  record-read s (h, e, room) = (read-gives-records text (spell s)).1 (h.0, (s, e, refl)) (length work) kept h.1 room

  record-answer : (s : Reading) → HasRecord text (length work) (length kept) s → a ≡ write_answer (spell s) (length buffer)
  unfolding formed_answer answer_then
  record-answer s h = let l = record-read s h in rw (f.answer, l.counted, l.result)

  record-passes : (s : Reading) → HasRecord text (length work) (length kept) s → unspell (spell s) ≡ some s
  record-passes s (h, e, room) = records-of-texts-pass text s h.0 e

  -- Where there is room, the form of the reading is left.
  pub form-left : (s : Reading) → HasRoom text (length work) (length kept) (length buffer) s → Left (form s) buffer a after
  unfolding formed_answer formed_leaves answer_then leaves_then
  form-left s h =
      let l = record-read s h.record_room in
      let w = (write-gives-forms (spell s) (form s)).1 (h.form_short, (s, record-passes s h.record_room, refl)) buffer h.form_room in
      rw (f.answer, f.left, l.counted, l.result) w

  -- Which refusal is answered is a matter of the text and of lengths.
  pub form-refused : (n : ℕ) (p : Place) → FormRefused text (length work) (length kept) (length buffer) n p → (why : Refusal) × (number why ≡ n) × (a ≡ Err (fault why p))
  unfolding formed_answer answer_then nowhere
  form-refused n p (not_read {why = why} e) = (why, refl, rw (f.answer, e))
  form-refused n p (form_long s h l) =
      let x = (write-refuses-in-order (spell s) (length buffer)).form_long.1 (s, record-passes s h, l) in
      (x.0, x.1, record-answer s h ∙ x.2)
  form-refused n p (no_room s h l m) =
      let x = (write-refuses-in-order (spell s) (length buffer)).no_room.1 (s, record-passes s h, l, m) in
      (x.0, x.1, record-answer s h ∙ x.2)

-- One of the cases applies.
module _ (text : List ℕ) (work kept room : ℕ) where
  record-case : (s : Reading) → HasRecord text work kept s → FormCase text work kept room
  record-case s h =
      by-test (leb (length (form s)) 1048576)
      (λ t.
      let short = leb-true (length (form s)) 1048576 t in
      by-test (leb (length (form s)) room)
      (λ u. formed s (record { record_room = h; form_short = short; form_room = leb-true (length (form s)) room u }))
      (λ u. refused 30 nowhere (no_room s h short (leb-false (length (form s)) room u))))
      (λ t. refused 32 nowhere (form_long s h (leb-false (length (form s)) 1048576 t)))

  answer-case : (a : Result ℕ (Fault Place)) → read_answer text work kept ≡ a → FormCase text work kept room
  answer-case (Err f) e = refused (number f.0) f.1 (not_read e)
  answer-case (Ok n) e =
      let k = ((read-refuses-in-order text work kept).answers n).0 e in
      record-case k.2.0 (k.1, k.2.1, omega (arith, k.0, k.2.2))

  pub form-case : FormCase text work kept room
  form-case = answer-case (read_answer text work kept) refl
