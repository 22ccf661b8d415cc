-- What the program prints of its input. Assumes nothing.
use Prim.Native.Nat.{ℕ, ◌≤◌, ◌<◌}
use Rattle.block.specs.Reading.{Reading}
use Rattle.lexer.specs.Base.{pick, bytes}
use Rattle.lexer.specs.Lexing.{work_needed}
use Rattle.lexer.specs.Places.{nowhere}
use Rattle.record.proofs.ReadCall.{read-faulty, read-refuses, read_left}
use Rattle.record.specs.Calls.{read_answer, read_leaves, printed}
use Rattle.record.specs.Decimal.{digit, decimal_from, decimal}
use Rattle.record.specs.Demands.{Reads, Taken, refusal_lines, TheProgramPrints}
use Rattle.record.specs.Program.{most_input, program_work, program_buffer, program_prints}
use Rattle.record.specs.Spell.{line, spell}
use borrow.Author.Tests.{le-leb, lt-leb}
use lib.ListN.{length, length-replicate}
use mathlib.Core.List.{List}
use mathlib.Core.Path.{◌≡◌, refl, ◌∙◌}
use native.Mathlib.Omega.{arith}

pub buffer-room : length program_buffer ≡ 65536
unfolding program_buffer
buffer-room = length-replicate {A = ℕ} 65536 0

-- Input that is not too long, with work memory enough, is what the call answers.
input-taken : (input : List ℕ) → length input ≤ 1024 → Taken input program_work
unfolding program_work work_needed most_input
input-taken input h = (omega arith, omega arith)

input-read : (input : List ℕ) → length input ≤ 1024
    → program_prints input ≡ printed (read_answer input program_work (length program_buffer)) (read_leaves input program_work program_buffer)
unfolding program_prints most_input pick
input-read input h = rw (le-leb (length input) 1024 h)

-- The lines of a refusal at 0,0
lines-one : refusal_lines 1 0 0 ≡ bytes "refused=1\nline=0\ncolumn=0\n"
unfolding line bytes decimal decimal_from digit pick
lines-one = refl

lines-thirty : refusal_lines 30 0 0 ≡ bytes "refused=30\nline=0\ncolumn=0\n"
unfolding line bytes decimal decimal_from digit pick
lines-thirty = refl

input-long : (input : List ℕ) → 1024 < length input → program_prints input ≡ refusal_lines 1 0 0
unfolding program_prints most_input pick printed nowhere
input-long input h = rw (lt-leb (length input) 1024 h)

input-recorded : (input : List ℕ) (r : Reading) → length input ≤ 1024 → Reads input r → length (spell r) ≤ 65536 → program_prints input ≡ spell r
unfolding printed
input-recorded input r h e l =
    let left = read_left input r program_work program_buffer (input-taken input h) e (omega (arith, buffer-room)) in
    input-read input h ∙ rw left.counted left.result

input-unroomed : (input : List ℕ) (r : Reading) → length input ≤ 1024 → Reads input r → 65536 < length (spell r)
    → program_prints input ≡ refusal_lines 30 0 0
unfolding printed
input-unroomed input r h e l =
    let no = (read-refuses input program_work (length program_buffer)).no_room.1 (input-taken input h, (r, e, omega (arith, buffer-room))) in
    input-read input h ∙ rw (no.2, no.1)

pub program-prints : TheProgramPrints
unfolding printed
program-prints input =
    record {
      too_long = λ h. input-long input h ∙ lines-one;
      recorded = input-recorded input;
      no_room = λ r h e l. input-unroomed input r h e l ∙ lines-thirty;
      faulty = λ n p h e. input-read input h ∙ rw (read-faulty input program_work (length program_buffer) n p (input-taken input h) e);
    }
