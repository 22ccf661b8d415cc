-- What a call answers and leaves, by what it comes to: the result's bytes, if there is room for them, or a refusal. Assumes nothing.
use Rattle.std.specs.Prelude.{Ok, Err}
use Rattle.std.specs.Prelude as Std
use Rattle.lexer.specs.declared.Fault.{Fault}
use Prim.Native.Nat.{ℕ, ◌≤◌, ◌<◌}
use Rattle.lexer.proofs.Basics.{by-test}
use Rattle.lexer.specs.Base.{pick}
use Rattle.lexer.specs.Places.{nowhere}
use Rattle.lexer.specs.Refusals.{number}
use Rattle.lexer.specs.declared.Place.{Place}
use Rattle.lexer.specs.declared.refusal.Refusal.{Refusal}
use Rattle.record.specs.Calls.{Result, bytes_of, refusal, answer, leaves}
use Rattle.record.specs.Demands.{Left, Kept}
use Rattle.lexer.specs.Refusals.{fault}
use borrow.Author.Tests.{leb-true, leb-false, le-leb, lt-leb}
use lib.Dec.{leb}
use lib.ListN.{length, drop, length-append, length-drop}
use lib.Seq.{take_at, drop_at}
use mathlib.Core.List.{List}
use mathlib.Core.Path.{◌≡◌, refl, sym, ap, ◌∙◌, subst}
use native.Mathlib.Omega.{arith}

-- Lengths and refusals differ, and a refusal has one number and one place.
pub length-refused : {n : ℕ} {m : Refusal} {p : Place} → ¬ (◌≡◌ {A = Std.Result ℕ (Fault Place)} (Ok n) (Err (fault m p)))
length-refused e = let z : ◌≡◌ {A = ℕ} 0 1 = cc in omega arith

pub same_length : {m n : ℕ} → ◌≡◌ {A = Std.Result ℕ (Fault Place)} (Ok m) (Ok n) → m ≡ n
same_length e = cc

pub same-refusal : {m n : Refusal} {p q : Place} → ◌≡◌ {A = Std.Result ℕ (Fault Place)} (Err (fault m p)) (Err (fault n q))
    → (number m ≡ number n) × (p.line ≡ q.line) × (p.column ≡ q.column)
same-refusal {m} {n} {p} {q} e =
    let same : fault m p ≡ fault n q = cc in
    (ap (λ (f : Fault Place). number f.0) same, ap (λ (f : Fault Place). f.1.line) same, ap (λ (f : Fault Place). f.1.column) same)

-- Bytes that fit, and bytes that do not
pub fits : (b : List ℕ) (room : ℕ) → length b ≤ room → answer (bytes_of b) room ≡ Ok (length b)
unfolding answer pick
fits b room h = rw (le-leb (length b) room h)

pub short : (b : List ℕ) (room : ℕ) → room < length b → answer (bytes_of b) room ≡ Err (fault Refusal.BufferShort nowhere)
unfolding answer pick
short b room h = rw (lt-leb (length b) room h)

pub left : (b buffer : List ℕ) → length b ≤ length buffer → Left b buffer (answer (bytes_of b) (length buffer)) (leaves (bytes_of b) buffer)
unfolding answer leaves pick
left b buffer h =
    rw (le-leb (length b) (length buffer) h)
    record { counted = refl; result = take_at b (drop (length b) buffer) (length b) refl; rest = drop_at b (drop (length b) buffer) (length b) refl }

pub short-told : (b : List ℕ) (room : ℕ) (n : Refusal) (p : Place) → answer (bytes_of b) room ≡ Err (fault n p)
    → (number n ≡ 30) × (room < length b) × (p.line ≡ 0) × (p.column ≡ 0)
unfolding nowhere
short-told b room n p h =
    by-test (leb (length b) room)
    (λ t. absurd (length-refused (sym (fits b room (leb-true _ _ t)) ∙ h)))
    (λ f.
    let less = leb-false (length b) room f in
    let k = same-refusal (sym (short b room less) ∙ h) in
    (sym k.0, less, sym k.1, sym k.2))

pub fitting : (b : List ℕ) (room n : ℕ) → answer (bytes_of b) room ≡ Ok n → (length b ≡ n) × (n ≤ room)
fitting b room n h =
    by-test (leb (length b) room)
    (λ t.
    let same : length b ≡ n = same_length (sym (fits b room (leb-true _ _ t)) ∙ h) in
    (same, omega (arith, leb-true (length b) room t)))
    (λ f. absurd (length-refused (sym h ∙ short b room (leb-false _ _ f))))

-- A refusal leaves the buffer as it was, and success touches only the result's bytes.
untouched : (b buffer : List ℕ) → length buffer < length b → leaves (bytes_of b) buffer ≡ buffer
unfolding leaves pick
untouched b buffer h = rw (lt-leb (length b) (length buffer) h)

left-room : (b buffer : List ℕ) → length b ≤ length buffer → length (leaves (bytes_of b) buffer) ≡ length buffer
unfolding leaves pick
left-room b buffer h = rw (le-leb (length b) (length buffer) h) (simp (length-append, length-drop) (omega arith))

pub kept : (x : Result) (buffer : List ℕ) → Kept buffer (answer x (length buffer)) (leaves x buffer)
unfolding answer leaves
kept (refusal m p) buffer = record { refused = λ n q e. refl; answered = λ n e. absurd (length-refused (sym e)); room = refl }
kept (bytes_of b) buffer =
    by-test (leb (length b) (length buffer))
    (λ t.
    let fit = leb-true (length b) (length buffer) t in
    let l = left b buffer fit in
    record { refused = λ n p e. absurd (length-refused (sym l.counted ∙ e)); answered = λ n e. subst (λ k. (k ≤ length buffer) × (drop k (leaves (bytes_of b) buffer) ≡ drop k buffer)) (same_length (sym l.counted ∙ e)) (fit, l.rest); room = left-room b buffer fit })
    (λ f.
    let less = leb-false (length b) (length buffer) f in
    let same = untouched b buffer less in
    record { refused = λ n p e. same; answered = λ n e. absurd (length-refused (sym e ∙ short b (length buffer) less)); room = ap length same })
