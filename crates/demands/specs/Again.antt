-- Demand 3: a record is written, and what was written, read again, gives it back byte for byte.
use Rattle.std.specs.Prelude.{ℕ, ◌+◌, ◌*◌, ◌≤◌, ◌<◌, length, drop, List, ◌++◌, ◌≡◌, Ok, Err, Result}
use Rattle.lexer.specs.declared.Place.{Place}
use Rattle.lexer.specs.declared.refusal.Refusal.{Refusal}
use Rattle.record.specs.Calls.{write_answer, write_leaves}
use Rattle.record.specs.Demands.{Refuses}
use Rattle.lexer.specs.declared.Fault.{Fault}
use Rattle.lexer.specs.Refusals.{fault}

-- The bytes `b`, work memory, a buffer `form` and a buffer `again` are lent. What they hold afterwards is `work_after`, `form_after` and
-- `again_after`, and the answer is `r`. Which case applies is a matter of the bytes `b` and of lengths, not of what memory and buffers held.
pub record WrittenAgain (b work work_after form form_after again again_after : List ℕ) (r : Result ℕ (Fault Place)) : Type 0 where
  -- the buffer for the form has what write leaves in it, and work memory keeps its length
  pub written : form_after ≡ write_leaves b form
  pub size : length work_after ≡ length work
  -- write refuses the bytes: that is the answer, and nothing else is touched
  pub refused : (n : Refusal) (p : Place) → write_answer b (length form) ≡ Err (fault n p)
      → (r ≡ Err (fault n p)) × (work_after ≡ work) × (again_after ≡ again)
  -- write answers the length of a form, and work memory and `again` are long enough: the record stands in `again`, byte for byte, and behind it
  -- all is as it was
  pub given_back : (n : ℕ) → write_answer b (length form) ≡ Ok n → 4 * n + 64 ≤ length work → length b ≤ length again
      → (r ≡ Ok (length b)) × (again_after ≡ b ++ drop (length b) again)
  -- work memory is too short for the form: 2
  pub memory_short : (n : ℕ) → write_answer b (length form) ≡ Ok n → length work < 4 * n + 64
      → Refuses r 2 0 0 × (again_after ≡ again)
  -- it is not, and `again` is shorter than the record: 30
  pub no_room : (n : ℕ) → write_answer b (length form) ≡ Ok n → 4 * n + 64 ≤ length work → length again < length b
      → Refuses r 30 0 0 × (again_after ≡ again)
