-- Demand 3: two texts are read and their records written, and the written bytes are the same exactly when the readings agree.
use Rattle.std.specs.Prelude.{ℕ, ◌≤◌, ◌<◌, Bool, true, false, length, take, drop, List, ◌++◌, ◌↔◌, ◌≡◌, Ok, Err, Result}
use Rattle.block.specs.Reading.{Reading}
use Rattle.demands.specs.Right.{HasRecord}
use Rattle.lexer.specs.Places.{nowhere}
use Rattle.lexer.specs.Refusals.{number}
use Rattle.lexer.specs.declared.Place.{Place}
use Rattle.lexer.specs.declared.refusal.Refusal.{Refusal}
use Rattle.record.specs.Calls.{read_answer, read_leaves, write_answer, write_leaves}
use Rattle.record.specs.Demands.{Agree}
use Rattle.record.specs.Form.{form}
use Rattle.lexer.specs.declared.Fault.{Fault}
use Rattle.lexer.specs.Refusals.{fault}

-- The answer is yes exactly when something holds, and no exactly when it does not.
pub record Tells (P : Type 0) (c : Result Bool (Fault Place)) : Type 0 where
  pub same : (c ≡ Ok true) ↔ P
  pub different : (c ≡ Ok false) ↔ (¬ P)

-- What write answers and leaves for the record that read left in `kept`, by what read answered: a refusal of read is the answer, and nothing
-- is written.
unfoldable pub answer_then : Result ℕ (Fault Place) → List ℕ → ℕ → Result ℕ (Fault Place)
answer_then (Ok n) kept room = write_answer (take n kept) room
answer_then (Err f) kept room = Err f

unfoldable pub leaves_then : Result ℕ (Fault Place) → List ℕ → List ℕ → List ℕ
leaves_then (Ok n) kept buffer = write_leaves (take n kept) buffer
leaves_then (Err f) kept buffer = buffer

-- A text is read into `kept`, with so much work memory, and its record written: the first refusal of the two calls, or the form's length.
unfoldable pub formed_answer : List ℕ → ℕ → List ℕ → ℕ → Result ℕ (Fault Place)
formed_answer text work kept room = answer_then (read_answer text work (length kept)) (read_leaves text work kept) room

unfoldable pub formed_leaves : List ℕ → ℕ → List ℕ → List ℕ → List ℕ
formed_leaves text work kept buffer = leaves_then (read_answer text work (length kept)) (read_leaves text work kept) buffer

-- The two calls made: the answer, what `kept` and the buffer for the form then hold, and that work memory keeps its length.
pub record Formed (text work work_after kept kept_after buffer after : List ℕ) (r : Result ℕ (Fault Place)) : Type 0 where
  pub answer : r ≡ formed_answer text (length work) kept (length buffer)
  pub left : after ≡ formed_leaves text (length work) kept buffer
  pub stored : kept_after ≡ read_leaves text (length work) kept
  pub size : length work_after ≡ length work

-- The cases of a text, with so much work memory, so much room for its record and so much for its form. They are about the text and about
-- lengths alone.

-- It has this reading, and there is room for the record (`HasRecord`) and for the form, which is of at most 1,048,576 bytes.
pub record HasRoom (text : List ℕ) (work kept room : ℕ) (s : Reading) : Type 0 where
  pub record_room : HasRecord text work kept s
  pub form_short : length (form s) ≤ 1048576
  pub form_room : length (form s) ≤ room

-- A call is refused, with this number and place: read refuses the text, with 30 where the record is longer than its room; the form is longer
-- than 1,048,576 bytes, 32; or it is not, and is longer than its room, 30.
pub data FormRefused (text : List ℕ) (work kept room : ℕ) : ℕ → Place → Type 0 where
  not_read : {why : Refusal} {p : Place} → read_answer text work kept ≡ Err (fault why p) → FormRefused text work kept room (number why) p
  form_long : (s : Reading) → HasRecord text work kept s → 1048576 < length (form s) → FormRefused text work kept room 32 nowhere
  no_room : (s : Reading) → HasRecord text work kept s → length (form s) ≤ 1048576 → room < length (form s) → FormRefused text work kept room 30 nowhere

pub data FormCase (text : List ℕ) (work kept room : ℕ) : Type 0 where
  formed : (s : Reading) → HasRoom text work kept room s → FormCase text work kept room
  refused : (n : ℕ) (p : Place) → FormRefused text work kept room n p → FormCase text work kept room

-- The answer is a refusal with this number, at this place.
pub record RefusedWith (n : ℕ) (p : Place) (c : Result Bool (Fault Place)) : Type 0 where
  pub why : Refusal
  pub numbered : number why ≡ n
  pub answer : c ≡ Err (fault why p)

-- The buffers hold the two forms, byte for byte, and behind them all is as it was. The forms' bytes, as they stand in the buffers, are the same
-- exactly when the readings agree, and the answer tells whether they do.
pub record ToldApart (r s : Reading) (first first_after second second_after : List ℕ) (c : Result Bool (Fault Place)) : Type 0 where
  pub first_form : first_after ≡ form r ++ drop (length (form r)) first
  pub second_form : second_after ≡ form s ++ drop (length (form s)) second
  pub bytes : (take (length (form r)) first_after ≡ take (length (form s)) second_after) ↔ Agree r s
  pub agree : Tells (Agree r s) c

-- The texts `t` and `u`, one after the other, with the same work memory and the same buffer `kept` for their records, each with a buffer of its
-- own, `first` and `second`, for its form. What memory and buffers held before has no part in the answer: only how long they are. Every byte of
-- the three buffers is said.
pub record FormsCompared (t u work work_after kept kept_after first first_after second second_after : List ℕ) (c : Result Bool (Fault Place)) : Type 0 where
  -- one of the cases applies to each text; what follows says for each what is answered and left, so that nothing is open
  pub decided : FormCase t (length work) (length kept) (length first) × FormCase u (length work) (length kept) (length second)
  -- there is room for both: the forms stand in their buffers, and the answer tells whether the readings agree
  pub told : (r s : Reading) → HasRoom t (length work) (length kept) (length first) r → HasRoom u (length work) (length kept) (length second) s
      → ToldApart r s first first_after second second_after c
  -- a call for the first text is refused: that is the answer, and neither buffer for forms is touched
  pub first_refused : (n : ℕ) (p : Place) → FormRefused t (length work) (length kept) (length first) n p
      → RefusedWith n p c × (first_after ≡ first) × (second_after ≡ second)
  -- none is, and one for the second text is refused: that is the answer, the first form stands in its buffer, and the second is not touched
  pub second_refused : (r : Reading) (n : ℕ) (p : Place) → HasRoom t (length work) (length kept) (length first) r → FormRefused u (length work) (length kept) (length second) n p
      → RefusedWith n p c × (first_after ≡ form r ++ drop (length (form r)) first) × (second_after ≡ second)
  -- the buffer for the records holds what read leaves in it for the first text, where a call for that is refused, and else what read leaves for
  -- the second over this
  pub first_kept : (n : ℕ) (p : Place) → FormRefused t (length work) (length kept) (length first) n p → kept_after ≡ read_leaves t (length work) kept
  pub both_kept : (r : Reading) → HasRoom t (length work) (length kept) (length first) r → kept_after ≡ read_leaves u (length work) (read_leaves t (length work) kept)
  -- work memory keeps its length
  pub size : length work_after ≡ length work
