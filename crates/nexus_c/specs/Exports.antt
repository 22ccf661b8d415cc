-- What a call answers, in numbers: a length, and the number, the line and the column of a refusal, each 0 where there is none.
use Rattle.std.specs.Prelude.{ℕ, length, List, ◌≡◌, Ok, Err, Result}
use Rattle.lexer.specs.Refusals.{number}
use Rattle.record.specs.Calls.{lookup_answer, read_answer, read_leaves, write_answer, write_leaves}
use Rattle.lexer.specs.declared.Fault.{Fault}
use Rattle.lexer.specs.declared.Place.{Place}

-- How many bytes were put.
unfoldable pub length_of : Result ℕ (Fault Place) → ℕ
length_of (Ok n) = n
length_of (Err f) = 0

-- The number of the refusal. No refusal has the number 0.
unfoldable pub number_of : Result ℕ (Fault Place) → ℕ
number_of (Ok n) = 0
number_of (Err f) = number f.0

unfoldable pub line_of : Result ℕ (Fault Place) → ℕ
line_of (Ok n) = 0
line_of (Err f) = f.1.line

unfoldable pub column_of : Result ℕ (Fault Place) → ℕ
column_of (Ok n) = 0
column_of (Err f) = f.1.column

-- An answer in numbers.
pub record InNumbers (a : Result ℕ (Fault Place)) (r n l c : ℕ) : Type 0 where
  pub result : r ≡ length_of a
  pub number : n ≡ number_of a
  pub line : l ≡ line_of a
  pub column : c ≡ column_of a

-- The read call: its answer in numbers, what it leaves in the buffer, and that work memory keeps its length.
pub record ReadExported (text work work_after buffer after : List ℕ) (n l c r : ℕ) : Type 0 where
  pub answer : InNumbers (read_answer text (length work) (length buffer)) r n l c
  pub left : after ≡ read_leaves text (length work) buffer
  pub size : length work_after ≡ length work

-- The write call: its answer in numbers, and what it leaves in the buffer.
pub record WriteExported (b buffer after : List ℕ) (n r : ℕ) : Type 0 where
  pub result : r ≡ length_of (write_answer b (length buffer))
  pub number : n ≡ number_of (write_answer b (length buffer))
  pub left : after ≡ write_leaves b buffer

-- The lookup: the refusal's number, and the stretch of the record where the cells stand.
pub record LookupExported (b name : List ℕ) (n from r : ℕ) : Type 0 where
  pub number : n ≡ (lookup_answer name b).refused
  pub start : from ≡ (lookup_answer name b).stretch.start
  pub result : r ≡ (lookup_answer name b).stretch.size
