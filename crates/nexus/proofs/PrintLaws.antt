-- What the program prints of its input is what the read call answers and leaves, in whatever buffer of its length. Assumes nothing.
use Rattle.std.specs.Prelude.{Ok, Err}
use Rattle.std.specs.Prelude as Std
use Prim.Native.Nat.{ℕ, ◌≤◌, ◌<◌}
use Rattle.lexer.proofs.Basics.{by-test}
use Rattle.lexer.specs.Base.{pick}
use Rattle.lexer.specs.Lexing.{work_needed}
use Rattle.lexer.specs.Places.{nowhere}
use Rattle.lexer.specs.Refusals.{number}
use Rattle.lexer.specs.declared.Place.{Place}
use Rattle.lexer.specs.declared.refusal.Refusal.{Refusal}
use Rattle.nexus.specs.Printing.{InFront}
use Rattle.read.specs.Call.{ReadCall}
use Rattle.record.proofs.CallLaws.{kept}
use Rattle.record.proofs.ProgramLaws.{buffer-room}
use Rattle.record.specs.Calls.{Result, bytes_of, refusal, answer, leaves, read_result, read_answer, read_leaves, printed}
use Rattle.record.specs.Demands.{refusal_lines}
use Rattle.record.specs.Program.{most_input, program_work, program_buffer, program_prints}
use Rattle.lexer.specs.declared.Fault.{Fault}
use Rattle.lexer.specs.Refusals.{fault}
use borrow.Author.Tests.{le-leb, lt-leb}
use lib.Dec.{leb}
use lib.ListN.{length, drop}
use lib.Seq.{take_at}
use mathlib.Core.List.{List}
use mathlib.Core.Path.{◌≡◌, refl, sym, ap, ◌∙◌, subst}
use native.Mathlib.Omega.{arith}

-- What is printed of a result does not hang on what the buffer held.
printed-alike : (x : Result) (a b : List ℕ) → length a ≡ length b → printed (answer x (length a)) (leaves x a) ≡ printed (answer x (length b)) (leaves x b)
unfolding answer leaves printed pick
printed-alike (refusal n p) a b e = refl
printed-alike (bytes_of s) a b e =
    by-test (leb (length s) (length b))
    (λ t. rw (e, t) (take_at s (drop (length s) a) (length s) refl ∙ sym (take_at s (drop (length s) b) (length s) refl)))
    (λ f. rw (e, f))

module _ (input : List ℕ) where
  -- Input that is too long
  pub long-prints : 1024 < length input → (shown : List ℕ) (k : ℕ) → InFront (refusal_lines 1 0 0) shown k → InFront (program_prints input) shown k
  unfolding program_prints most_input pick printed nowhere
  long-prints h shown k front = rw (lt-leb (length input) 1024 h) front

  -- Input that is read
  module _ (short : length input ≤ 1024) (work after out left : List ℕ) (size : 4160 ≡ length work) (room : 65536 ≡ length out) (a : Std.Result ℕ (Fault Place)) (call : ReadCall input work after out left a) where
    call-prints : printed a left ≡ program_prints input
    unfolding program_prints program_work work_needed most_input pick read_answer read_leaves
    call-prints =
        rw (call.answer, call.left, le-leb (length input) 1024 short, sym size)
        (printed-alike (read_result input 4160) out program_buffer (sym room ∙ sym buffer-room))

    pub length-prints : (n : ℕ) → a ≡ Ok n → InFront (program_prints input) left n
    unfolding read_answer read_leaves printed
    length-prints n e =
        let k = kept (read_result input (length work)) out in
        let told : answer (read_result input (length work)) (length out) ≡ Ok n = sym call.answer ∙ e in
        let same : length left ≡ length out = ap length call.left ∙ k.room in
        let within = (k.answered n told).0 in
        record { within = omega arith; bytes = ap (λ x. printed x left) (sym e) ∙ call-prints }

    pub refusal-prints : (why : Refusal) (at : Place) → a ≡ Err (fault why at) → (n : ℕ) → n ≡ number why → (shown : List ℕ) (k : ℕ)
        → InFront (refusal_lines n at.line at.column) shown k → InFront (program_prints input) shown k
    unfolding printed
    refusal-prints why at e n told shown k front =
        let same : refusal_lines (number why) at.line at.column ≡ program_prints input = ap (λ x. printed x left) (sym e) ∙ call-prints in
        subst (λ x. InFront x shown k) (ap (λ m. refusal_lines m at.line at.column) told ∙ same) front
