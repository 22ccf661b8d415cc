-- What write answers and leaves: 31, 32, 30, or the form of a record's reading. Assumes nothing.
use Rattle.std.specs.Prelude.{Ok, Err}
use Prim.Native.Nat.{ℕ, ◌≤◌, ◌<◌}
use Rattle.block.specs.Reading.{Reading}
use Rattle.lexer.proofs.Basics.{by-test}
use Rattle.lexer.specs.Base.{pick}
use Rattle.lexer.specs.Lexing.{longest}
use Rattle.lexer.specs.Places.{nowhere}
use Rattle.lexer.specs.Refusals.{number}
use Rattle.lexer.specs.declared.Place.{Place}
use Rattle.lexer.specs.declared.refusal.Refusal.{Refusal}
use Rattle.record.proofs.CallLaws.{length-refused, same-refusal, fits, short, left, short-told, fitting}
use Rattle.record.proofs.SomeReading.{no-reading}
use Rattle.record.specs.Calls.{Result, bytes_of, refusal, refuse, answer, written, write_result, write_answer, write_leaves}
use Rattle.record.specs.Demands.{WriteGives, WriteGivesTheForm, WriteRefusesInOrder}
use Rattle.record.specs.Form.{form}
use Rattle.record.specs.Unspell.{unspell}
use Rattle.lexer.specs.Refusals.{fault}
use borrow.Author.Tests.{leb-true, leb-false, le-leb, lt-leb}
use lib.Dec.{leb}
use lib.ListN.{length, take}
use mathlib.Core.List.{List}
use mathlib.Core.Option.{Option, none, some}
use mathlib.Core.Path.{◌≡◌, refl, sym, ap, ◌∙◌, subst}
use native.Mathlib.Omega.{arith}

-- What write comes to
write-none : (b : List ℕ) → unspell b ≡ none → write_result b ≡ refusal Refusal.NotRecord nowhere
unfolding write_result written refuse
write-none b e = rw e

write-long : (b : List ℕ) (r : Reading) → unspell b ≡ some r → 1048576 < length (form r) → write_result b ≡ refusal Refusal.FormTooLong nowhere
unfolding write_result written refuse longest pick
write-long b r e h = rw (e, lt-leb (length (form r)) 1048576 h)

write-form : (b : List ℕ) (r : Reading) → unspell b ≡ some r → length (form r) ≤ 1048576 → write_result b ≡ bytes_of (form r)
unfolding write_result written longest pick
write-form b r e h = rw (e, le-leb (length (form r)) 1048576 h)

data WriteCase (b : List ℕ) : Result → Type 0 where
  not_record : unspell b ≡ none → WriteCase b (refusal Refusal.NotRecord nowhere)
  form_long : {r : Reading} → unspell b ≡ some r → 1048576 < length (form r) → WriteCase b (refusal Refusal.FormTooLong nowhere)
  forming : {r : Reading} → unspell b ≡ some r → length (form r) ≤ 1048576 → WriteCase b (bytes_of (form r))

write-case : (b : List ℕ) → WriteCase b (write_result b)
write-case b = go (unspell b) refl
  where
    go : (o : Option Reading) → unspell b ≡ o → WriteCase b (write_result b)
    go none e = rw (write-none b e) (not_record e)
    go (some r) e =
        by-test (leb (length (form r)) 1048576)
        (λ t.
        let h = leb-true (length (form r)) 1048576 t in
        rw (write-form b r e h) (forming e h))
        (λ t.
        let h = leb-false (length (form r)) 1048576 t in
        rw (write-long b r e h) (form_long e h))

-- What a refusal says, by its number
record Says (b : List ℕ) (room : ℕ) (n : Refusal) : Type 0 where
  thirty-one : number n ≡ 31 → unspell b ≡ none
  thirty_two : number n ≡ 32 → (r : Reading) × (unspell b ≡ some r) × (1048576 < length (form r))
  thirty : number n ≡ 30 → (r : Reading) × (unspell b ≡ some r) × (length (form r) ≤ 1048576) × (room < length (form r))

case-says : (b : List ℕ) (room : ℕ) (n : Refusal) (p : Place) (x : Result) → WriteCase b x → answer x room ≡ Err (fault n p) → Says b room n
unfolding answer
case-says b room n p x (not_record e) q =
    let k = (same-refusal q).0 in
    record { thirty-one = λ o. e; thirty_two = λ o. absurd (omega arith); thirty = λ o. absurd (omega arith) }
case-says b room n p x (form_long {r = r} e h) q =
    let k = (same-refusal q).0 in
    record { thirty-one = λ o. absurd (omega arith); thirty_two = λ o. (r, e, h); thirty = λ o. absurd (omega arith) }
case-says b room n p x (forming {r = r} e h) q =
    let k = short-told (form r) room n p q in
    record { thirty-one = λ o. absurd (omega arith); thirty_two = λ o. absurd (omega arith); thirty = λ o. (r, e, h, k.1) }

case-answers : (b : List ℕ) (room n : ℕ) (x : Result) → WriteCase b x → answer x room ≡ Ok n
    → (n ≤ room) × (n ≤ 1048576) × ((r : Reading) × (unspell b ≡ some r) × (length (form r) ≡ n))
unfolding answer
case-answers b room n x (not_record e) q = absurd (length-refused (sym q))
case-answers b room n x (form_long e h) q = absurd (length-refused (sym q))
case-answers b room n x (forming {r = r} e h) q =
    let k = fitting (form r) room n q in
    (k.1, omega (arith, k.0), (r, e, k.0))

case-nowhere : (b : List ℕ) (room : ℕ) (n : Refusal) (p : Place) (x : Result) → WriteCase b x → answer x room ≡ Err (fault n p)
    → (p.line ≡ 0) × (p.column ≡ 0)
unfolding answer nowhere
case-nowhere b room n p x (not_record e) q = let k = same-refusal q in (sym k.1, sym k.2)
case-nowhere b room n p x (form_long e h) q = let k = same-refusal q in (sym k.1, sym k.2)
case-nowhere b room n p x (forming {r = r} e h) q = let k = short-told (form r) room n p q in (k.2, k.3)

pub write-refuses : WriteRefusesInOrder
unfolding write_answer answer nowhere
write-refuses b room =
    let says : (n : Refusal) (p : Place) → write_answer b room ≡ Err (fault n p) → Says b room n = λ n p. case-says b room n p (write_result b) (write-case b) in
    record {
      not_record = (λ h. (no-reading b).0 ((says h.0 _ h.2).thirty-one h.1), λ h. (Refusal.NotRecord, refl, rw (write-none b ((no-reading b).1 h))));
      form_long = (λ h. (says h.0 _ h.2).thirty_two h.1, λ h. (Refusal.FormTooLong, refl, rw (write-long b h.0 h.1 h.2)));
      no_room = (λ h. (says h.0 _ h.2).thirty h.1, λ h. (Refusal.BufferShort, refl, rw (write-form b h.0 h.1 h.2) (short (form h.0) room h.3)));
      answers = λ n. (case-answers b room n (write_result b) (write-case b), λ h. rw (write-form b h.2.0 h.2.1 (omega arith)) (fits (form h.2.0) room (omega arith) ∙ ap Ok h.2.2));
      nowhere = λ n p. case-nowhere b room n p (write_result b) (write-case b);
    }

-- The form that a call leaves
pub write-gives : (b : List ℕ) (r : Reading) → unspell b ≡ some r → length (form r) ≤ 1048576 → WriteGives b (form r)
unfolding write_answer write_leaves
write-gives b r e h buffer l = rw (write-form b r e h) (left (form r) buffer l)

-- What a call left is the form of a record's reading.
write-left : (b buffer : List ℕ) (n : ℕ) → write_answer b (length buffer) ≡ Ok n
    → (length (take n (write_leaves b buffer)) ≤ 1048576) × ((r : Reading) × (unspell b ≡ some r) × (form r ≡ take n (write_leaves b buffer)))
write-left b buffer n h =
    let k = ((write-refuses b (length buffer)).answers n).0 h in
    let r = k.2.0 in
    let l = write-gives b r k.2.1 (omega arith) buffer (omega arith) in
    let same : form r ≡ take n (write_leaves b buffer) = sym l.result ∙ ap (λ m. take m (write_leaves b buffer)) k.2.2 in
    (omega (arith, ap length same), (r, k.2.1, same))

write-given : (b f : List ℕ) → (length f ≤ 1048576) × ((r : Reading) × (unspell b ≡ some r) × (form r ≡ f)) → WriteGives b f
write-given b f h = subst (WriteGives b) h.1.2 (write-gives b h.1.0 h.1.1 (omega (arith, ap length h.1.2)))

pub write-left-given : (b buffer : List ℕ) (n : ℕ) → write_answer b (length buffer) ≡ Ok n → WriteGives b (take n (write_leaves b buffer))
write-left-given b buffer n h = write-given b (take n (write_leaves b buffer)) (write-left b buffer n h)

pub write-gives-the-form : WriteGivesTheForm
write-gives-the-form b f = (form_given, write-given b f)
  where
    form_given : WriteGives b f → (length f ≤ 1048576) × ((r : Reading) × (unspell b ≡ some r) × (form r ≡ f))
    form_given g =
        let l = g f (omega arith) in
        let k = write-left b f (length f) l.counted in
        (omega (arith, k.0, ap length l.result), (k.1.0, k.1.1, k.1.2 ∙ l.result))
