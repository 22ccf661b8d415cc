-- What read answers and leaves: 1, 2, the fault of the text, 30, or its record. Assumes nothing.
use Rattle.std.specs.Prelude.{Ok, Err}
use Prim.Native.Nat.{ℕ, ◌+◌, ◌*◌, ◌≤◌, ◌<◌}
use Rattle.block.specs.Parse.{Read, reading, fault, read}
use Rattle.block.specs.Reading.{Reading}
use Rattle.lexer.proofs.Basics.{by-test}
use Rattle.lexer.specs.Base.{pick}
use Rattle.lexer.specs.Lexing.{longest, work_needed}
use Rattle.lexer.specs.Places.{nowhere}
use Rattle.lexer.specs.Refusals.{number}
use Rattle.lexer.specs.Refusals as Refusals
use Rattle.lexer.specs.declared.Fault.{Fault}
use Rattle.lexer.specs.Utf8.{utf8}
use Rattle.lexer.specs.declared.Place.{Place}
use Rattle.lexer.specs.declared.refusal.Refusal.{Refusal}
use Rattle.record.proofs.CallLaws.{length-refused, same-refusal, fits, short, left, short-told, fitting}
use Rattle.record.proofs.FaultPlaces.{fault-placed, not-utf8}
use Rattle.record.specs.Calls.{Result, bytes_of, refusal, refuse, answer, recorded, read_result, read_answer, read_leaves}
use Rattle.record.specs.Demands.{Reads, Left, ReadGives, ReadGivesTheRecord, Taken, ReadRefusesInOrder}
use Rattle.record.specs.Spell.{spell}
use borrow.Author.Tests.{leb-true, leb-false, le-leb, lt-leb}
use lib.Dec.{leb}
use lib.ListN.{length, take}
use mathlib.Core.Bool.{true, false}
use mathlib.Core.List.{List}
use mathlib.Core.Path.{◌≡◌, refl, sym, ap, ◌∙◌, subst}
use native.Mathlib.Omega.{arith}

-- What read comes to
read-long : (text : List ℕ) (work : ℕ) → 1048576 < length text → read_result text work ≡ refusal Refusal.TextTooLong nowhere
unfolding read_result longest pick refuse
read-long text work h = rw (lt-leb (length text) 1048576 h)

read_short : (text : List ℕ) (work : ℕ) → length text ≤ 1048576 → work < 4 * length text + 64
    → read_result text work ≡ refusal Refusal.WorkMemoryShort nowhere
unfolding read_result longest work_needed pick refuse
read_short text work l h = rw (le-leb (length text) 1048576 l, lt-leb (4 * length text + 64) work h)

read_taken : (text : List ℕ) (work : ℕ) → Taken text work → read_result text work ≡ recorded (read text)
unfolding read_result longest work_needed pick
read_taken text work h = rw (le-leb (length text) 1048576 h.0, le-leb (4 * length text + 64) work h.1)

pub read-faulty : (text : List ℕ) (work room : ℕ) (n : Refusal) (p : Place) → Taken text work → read text ≡ fault n p
    → read_answer text work room ≡ Err (Refusals.fault n p)
unfolding read_answer recorded answer
read-faulty text work room n p h e = rw (read_taken text work h, e)

data ReadCase (text : List ℕ) (work : ℕ) : Result → Type 0 where
  too_long : 1048576 < length text → ReadCase text work (refusal Refusal.TextTooLong nowhere)
  memory_short : length text ≤ 1048576 → work < 4 * length text + 64 → ReadCase text work (refusal Refusal.WorkMemoryShort nowhere)
  not_utf8 : Taken text work → utf8 text ≡ false → ReadCase text work (refusal Refusal.NotUtf8 nowhere)
  faulty : {n : Refusal} {p : Place} → Taken text work → read text ≡ fault n p → 1 ≤ p.line → ReadCase text work (refusal n p)
  recording : {r : Reading} → Taken text work → Reads text r → ReadCase text work (bytes_of (spell r))

read-case : (text : List ℕ) (work : ℕ) → ReadCase text work (read_result text work)
unfolding recorded
read-case text work =
    by-test (leb (length text) 1048576)
    (λ t.
    let l = leb-true (length text) 1048576 t in
    by-test (leb (4 * length text + 64) work)
    (λ u.
    let h : Taken text work = (l, leb-true (4 * length text + 64) work u) in
    by-test (utf8 text) (λ v. taken h v (read text) refl) (λ v. rw (read_taken text work h, not-utf8 text v) (not_utf8 h v)))
    (λ u.
    let h = leb-false (4 * length text + 64) work u in
    rw (read_short text work l h) (memory_short l h)))
    (λ t.
    let h = leb-false (length text) 1048576 t in
    rw (read-long text work h) (too_long h))
  where
    taken : Taken text work → utf8 text ≡ true → (x : Read) → read text ≡ x → ReadCase text work (read_result text work)
    taken h v (reading r) e = rw (read_taken text work h, e) (recording h e)
    taken h v (fault n p) e = rw (read_taken text work h, e) (faulty h e (fault-placed text n p v e))

-- What a refusal says, by its number at no line, and at a line
record Says (text : List ℕ) (work room : ℕ) (n : Refusal) (p : Place) : Type 0 where
  one : number n ≡ 1 → p.line ≡ 0 → 1048576 < length text
  two : number n ≡ 2 → p.line ≡ 0 → (length text ≤ 1048576) × (work < 4 * length text + 64)
  three : number n ≡ 3 → p.line ≡ 0 → Taken text work × (utf8 text ≡ false)
  thirty : number n ≡ 30 → p.line ≡ 0 → Taken text work × ((r : Reading) × Reads text r × (room < length (spell r)))
  fault_at : 1 ≤ p.line → Taken text work × (read text ≡ fault n p)

case-says : (text : List ℕ) (work room : ℕ) (n : Refusal) (p : Place) (x : Result) → ReadCase text work x
    → answer x room ≡ Err (Refusals.fault n p) → Says text work room n p
unfolding answer nowhere
case-says text work room n p x (too_long h) e =
    let k = same-refusal e in
    record { one = λ q l. h; two = λ q l. absurd (omega arith); three = λ q l. absurd (omega arith); thirty = λ q l. absurd (omega arith); fault_at = λ l. absurd (omega arith) }
case-says text work room n p x (memory_short m h) e =
    let k = same-refusal e in
    record { one = λ q l. absurd (omega arith); two = λ q l. (m, h); three = λ q l. absurd (omega arith); thirty = λ q l. absurd (omega arith); fault_at = λ l. absurd (omega arith) }
case-says text work room n p x (not_utf8 h u) e =
    let k = same-refusal e in
    record { one = λ q l. absurd (omega arith); two = λ q l. absurd (omega arith); three = λ q l. (h, u); thirty = λ q l. absurd (omega arith); fault_at = λ l. absurd (omega arith) }
case-says text work room n p x (faulty {n = m} {p = q} h f g) e =
    let k = same-refusal e in
    let met : Refusals.fault m q ≡ Refusals.fault n p = cc in
    let same = ap (λ (f : Fault Place). fault f.0 f.1) met in
    record { one = λ o l. absurd (omega arith); two = λ o l. absurd (omega arith); three = λ o l. absurd (omega arith); thirty = λ o l. absurd (omega arith); fault_at = λ l. (h, f ∙ same) }
case-says text work room n p x (recording {r = r} h f) e =
    let k = short-told (spell r) room n p e in
    record { one = λ q l. absurd (omega arith); two = λ q l. absurd (omega arith); three = λ q l. absurd (omega arith); thirty = λ q l. (h, (r, f, k.1)); fault_at = λ l. absurd (omega arith) }

case-answers : (text : List ℕ) (work room n : ℕ) (x : Result) → ReadCase text work x → answer x room ≡ Ok n
    → (n ≤ room) × Taken text work × ((r : Reading) × Reads text r × (length (spell r) ≡ n))
unfolding answer
case-answers text work room n x (too_long h) e = absurd (length-refused (sym e))
case-answers text work room n x (memory_short l h) e = absurd (length-refused (sym e))
case-answers text work room n x (not_utf8 h u) e = absurd (length-refused (sym e))
case-answers text work room n x (faulty h f g) e = absurd (length-refused (sym e))
case-answers text work room n x (recording {r = r} h f) e = let k = fitting (spell r) room n e in (k.1, h, (r, f, k.0))

pub read-refuses : ReadRefusesInOrder
unfolding read_answer recorded answer nowhere
read-refuses text work room =
    let says : (n : Refusal) (p : Place) → read_answer text work room ≡ Err (Refusals.fault n p) → Says text work room n p =
    λ n p. case-says text work room n p (read_result text work) (read-case text work)
    in
    record {
      too_long = (λ h. (says h.0 _ h.2).one h.1 refl, λ h. (Refusal.TextTooLong, refl, rw (read-long text work h)));
      memory_short = (λ h. (says h.0 _ h.2).two h.1 refl, λ h. (Refusal.WorkMemoryShort, refl, rw (read_short text work h.0 h.1)));
      not_utf8 = (λ h. (says h.0 _ h.2).three h.1 refl, λ h. (Refusal.NotUtf8, refl, read-faulty text work room Refusal.NotUtf8 nowhere h.0 (not-utf8 text h.1)));
      faulty = λ n p l. (λ h. (says n p h).fault_at l, λ h. read-faulty text work room n p h.0 h.1);
      placed = fault-placed text;
      no_room = (λ h. (says h.0 _ h.2).thirty h.1 refl, λ h. (Refusal.BufferShort, refl, rw (read_taken text work h.0, h.1.1) (short (spell h.1.0) room h.1.2)));
      answers = λ n. (case-answers text work room n (read_result text work) (read-case text work), λ h. rw (read_taken text work h.1, h.2.1) (fits (spell h.2.0) room (omega arith) ∙ ap Ok h.2.2));
    }

-- The record that a call leaves
pub read_left : (text : List ℕ) (r : Reading) (work : ℕ) (buffer : List ℕ) → Taken text work → Reads text r → length (spell r) ≤ length buffer
    → Left (spell r) buffer (read_answer text work (length buffer)) (read_leaves text work buffer)
unfolding read_answer read_leaves recorded
read_left text r work buffer h e l = rw (read_taken text work h, e) (left (spell r) buffer l)

pub read-gives : (text : List ℕ) (r : Reading) → length text ≤ 1048576 → Reads text r → ReadGives text (spell r)
read-gives text r h e work buffer w l = read_left text r work buffer (h, w) e l

-- What a call left is the record of a reading.
read-record : (text : List ℕ) (work : ℕ) (buffer : List ℕ) (n : ℕ) → read_answer text work (length buffer) ≡ Ok n
    → (length text ≤ 1048576) × ((r : Reading) × Reads text r × (spell r ≡ take n (read_leaves text work buffer)))
read-record text work buffer n h =
    let k = ((read-refuses text work (length buffer)).answers n).0 h in
    let l = read_left text k.2.0 work buffer k.1 k.2.1 (omega arith) in
    (k.1.0, (k.2.0, k.2.1, sym l.result ∙ ap (λ m. take m (read_leaves text work buffer)) k.2.2))

pub read-left-given : (text : List ℕ) (work : ℕ) (buffer : List ℕ) (n : ℕ) → read_answer text work (length buffer) ≡ Ok n
    → ReadGives text (take n (read_leaves text work buffer))
read-left-given text work buffer n h =
    let k = read-record text work buffer n h in
    subst (ReadGives text) k.1.2 (read-gives text k.1.0 k.0 k.1.1)

pub read-gives-the-record : ReadGivesTheRecord
read-gives-the-record text b = (record_given, λ h. subst (ReadGives text) h.1.2 (read-gives text h.1.0 h.0 h.1.1))
  where
    record_given : ReadGives text b → (length text ≤ 1048576) × ((r : Reading) × Reads text r × (spell r ≡ b))
    record_given g =
        let l = g (4 * length text + 64) b (omega arith) (omega arith) in
        let k = read-record text (4 * length text + 64) b (length b) l.counted in
        (k.0, (k.1.0, k.1.1, k.1.2 ∙ l.result))
