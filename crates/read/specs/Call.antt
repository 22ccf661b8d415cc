-- What the read call answers and what it leaves.
use Rattle.std.specs.Prelude.{ℕ, ◌≤◌, length, take, List, ◌≡◌, Ok, Result}
use Rattle.block.specs.Parse.{read}
use Rattle.block.specs.Sound.{Sound}
use Rattle.commands.specs.MatrixHeld.{format_held, reading_held}
use Rattle.commands.specs.declared.state.Held.{Held}
use Rattle.emit.specs.Delivered.{Delivered}
use Rattle.lexer.specs.Lexing.{lexed}
use Rattle.lexer.specs.Stored.{Stored}
use Rattle.record.specs.Calls.{bytes_of, recorded, read_answer, read_leaves}
use Rattle.record.specs.Spell.{spell}
use Rattle.lexer.specs.declared.Fault.{Fault}
use Rattle.lexer.specs.declared.Place.{Place}

-- Lexing a text answers so many tokens, and work memory holds where they begin.
pub record LexedSo (text work : List ℕ) (count : ℕ) : Type 0 where
  pub told : Ok count ≡ lexed text (length work)
  pub held : Stored text work count

-- If the format of a matrix that work memory holds has no more symbols than the code's format can hold, and what is held is a reading, its record is
-- delivered.
abbrev pub HeldDelivered : List ℕ → List ℕ → ℕ → Held → List ℕ → List ℕ → Result ℕ (Fault Place) → Type 0
HeldDelivered text work count h before after r =
    length (format_held text (take count work) h.style).symbols ≤ 74 → Sound (reading_held text work count h) → Delivered (bytes_of (spell (reading_held text work count h))) before after r

-- What the tokens of a text come to is delivered, and work memory keeps its length.
pub record TokensCall (text work work_after buffer after : List ℕ) (r : Result ℕ (Fault Place)) : Type 0 where
  pub given : Delivered (recorded (read text)) buffer after r
  pub size : length work_after ≡ length work

-- The read call: its answer, what it leaves in the buffer, and that work memory keeps its length.
pub record ReadCall (text work work_after buffer after : List ℕ) (r : Result ℕ (Fault Place)) : Type 0 where
  pub answer : r ≡ read_answer text (length work) (length buffer)
  pub left : after ≡ read_leaves text (length work) buffer
  pub size : length work_after ≡ length work
