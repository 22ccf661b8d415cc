-- The program: it reads standard input, at most 1,024 bytes (more is 1), into a record buffer of 65,536 bytes, and prints the record, or the
-- refusal's number and place.
use Rattle.std.specs.Prelude.{ℕ, leb, length, replicate, List, [], Err}
use Rattle.lexer.specs.Base.{pick}
use Rattle.lexer.specs.Lexing.{work_needed}
use Rattle.lexer.specs.Places.{nowhere}
use Rattle.lexer.specs.declared.refusal.Refusal.{Refusal}
use Rattle.record.specs.Calls.{read_answer, read_leaves, printed}
use Rattle.lexer.specs.Refusals.{fault}

-- The most bytes of standard input that are read.
unfoldable pub most_input : ℕ
most_input = 1024

-- Work memory for so many bytes, and a record buffer. It is longer than any record of so short a text: a byte of a text makes at most 51 bytes
-- of its record, where it is an N of DNA, with the four lines of its character.
unfoldable pub program_work : ℕ
program_work = work_needed most_input

unfoldable pub program_buffer : List ℕ
program_buffer = replicate 65536 0

unfoldable pub program_prints : List ℕ → List ℕ
program_prints input =
    let result = printed (read_answer input program_work (length program_buffer)) (read_leaves input program_work program_buffer) in
    let refused = printed (Err (fault Refusal.TextTooLong nowhere)) [] in
    pick (leb (length input) most_input) result refused
