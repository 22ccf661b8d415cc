-- The three calls: what each answers, and what it leaves in the lent buffer.
use Rattle.std.specs.Prelude.{ℕ, leb, length, take, drop, List, [], ◌++◌, Ok, Err}
use Rattle.std.specs.Prelude as Std
use Rattle.std.proofs.Math.Option.{Option, none, some}
use Rattle.lexer.specs.Base.{pick}
use Rattle.lexer.specs.Lexing.{longest, work_needed}
use Rattle.lexer.specs.Places.{nowhere}
use Rattle.lexer.specs.Refusals.{number}
use Rattle.lexer.specs.Refusals as Refusals
use Rattle.lexer.specs.declared.Place.{Place}
use Rattle.lexer.specs.declared.refusal.Refusal.{Refusal}
use Rattle.block.specs.Parse.{Read, reading, fault, read}
use Rattle.block.specs.Reading.{Reading}
use Rattle.record.specs.Decimal.{decimal}
use Rattle.record.specs.Form.{form}
use Rattle.record.specs.Lookup.{Stretch, lookup}
use Rattle.record.specs.Spell.{line, spell}
use Rattle.record.specs.Unspell.{unspell}
use Rattle.lexer.specs.declared.Fault.{Fault}

-- What a call comes to before the room is looked at: the bytes to write, or a refusal and its place.
pub data Result : Type 0 where
  bytes_of : List ℕ → Result
  refusal : Refusal → Place → Result

unfoldable pub refuse : Refusal → Result
refuse n = refusal n nowhere

-- Too little room (30) is refused last, and a refusal leaves the buffer as it was. Of a buffer only the result's bytes are touched.
unfoldable pub answer : Result → ℕ → Std.Result ℕ (Fault Place)
answer (bytes_of b) room = pick (leb (length b) room) (Ok (length b)) (Err (Refusals.fault Refusal.BufferShort nowhere))
answer (refusal n p) room = Err (Refusals.fault n p)

unfoldable pub leaves : Result → List ℕ → List ℕ
leaves (bytes_of b) buffer = let written = b ++ drop (length b) buffer in pick (leb (length b) (length buffer)) written buffer
leaves (refusal n p) buffer = buffer

-- Read: the record of a text. In order: 1 text too long, 2 work memory short, then what the text itself is refused for.
unfoldable pub recorded : Read → Result
recorded (reading r) = bytes_of (spell r)
recorded (fault n p) = refusal n p

unfoldable pub read_result : List ℕ → ℕ → Result
read_result text work =
    let result = recorded (read text) in
    let judged = pick (leb (work_needed (length text)) work) result (refuse Refusal.WorkMemoryShort) in
    pick (leb (length text) longest) judged (refuse Refusal.TextTooLong)

unfoldable pub read_answer : List ℕ → ℕ → ℕ → Std.Result ℕ (Fault Place)
read_answer text work room = answer (read_result text work) room

unfoldable pub read_leaves : List ℕ → ℕ → List ℕ → List ℕ
read_leaves text work buffer = leaves (read_result text work) buffer

-- Write: the written form of a record. In order: 31 not a record, 32 form longer than a text may be.
unfoldable pub written : Option Reading → Result
written none = refuse Refusal.NotRecord
written (some r) =
    let f = form r in
    let result = bytes_of f in
    pick (leb (length f) longest) result (refuse Refusal.FormTooLong)

unfoldable pub write_result : List ℕ → Result
write_result record_bytes = written (unspell record_bytes)

unfoldable pub write_answer : List ℕ → ℕ → Std.Result ℕ (Fault Place)
write_answer record_bytes room = answer (write_result record_bytes) room

unfoldable pub write_leaves : List ℕ → List ℕ → List ℕ
write_leaves record_bytes buffer = leaves (write_result record_bytes) buffer

-- Look up: a taxon's cells by name. In order: 31 not a record, 33 no such name. A refusal hands back an empty stretch; the number is 0 where
-- the name was found.
pub record Found : Type 0 where
  pub refused : ℕ
  pub stretch : Stretch

unfoldable pub not_found : Refusal → Found
not_found n = record { refused = number n; stretch = record { start = 0; size = 0 } }

unfoldable pub found : Option Stretch → Found
found none = not_found Refusal.NoSuchName
found (some s) = record { refused = 0; stretch = s }

unfoldable pub looked_up : List ℕ → Option Reading → Found
looked_up name none = not_found Refusal.NotRecord
looked_up name (some r) = found (lookup name r)

unfoldable pub lookup_answer : List ℕ → List ℕ → Found
lookup_answer name record_bytes = looked_up name (unspell record_bytes)

-- What the program prints: the record that the call left in the buffer, or the refusal's number and place.
unfoldable pub printed : Std.Result ℕ (Fault Place) → List ℕ → List ℕ
printed (Ok n) buffer = take n buffer
printed (Err f) buffer =
    line "refused=" (decimal (number f.0)) (line "line=" (decimal f.1.line) (line "column=" (decimal f.1.column) []))
