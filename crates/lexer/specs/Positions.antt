-- Positions in a text, each a byte with its line and column; and a lexer, which keeps the text beside its position.
use Rattle.std.specs.Prelude.{ℕ, ◌+◌, ◌-◌, ◌≤◌, ltb, length, drop, List, Some, None, Ok, Err, Option, Result}
use Rattle.std.specs.Borrow.{Bor}
use Rattle.lexer.specs.Base.{pick}
use Rattle.lexer.specs.Places.{move, place_from}
use Rattle.lexer.specs.Scanning.{symbol_at, comment_end}
use Rattle.lexer.specs.declared.Fault.{Fault}
use Rattle.lexer.specs.declared.Place.{Place}
use Rattle.lexer.specs.declared.lexer_of.Lexer.{Lexer}
use Rattle.lexer.specs.declared.lexer_of.Position.{Position}
use Rattle.lexer.specs.declared.Symbol.{Symbol}

-- What stands at a byte: its symbol, or the end behind the last byte.
unfoldable pub ahead : List ℕ → ℕ → Option Symbol
ahead text at = pick (ltb at (length text)) (Some (symbol_at text at)) None

-- The position of a byte with this place.
abbrev pub position : ℕ → Place → Position
position at p = record { at = at; line = p.line; column = p.column }

-- The position behind the byte at `at`, which stands at this line and column. Behind the last byte it stays where it is.
unfoldable pub moved_on : List ℕ → ℕ → ℕ → ℕ → Position
moved_on text at line column =
    let here : Place = record { line = line; column = column } in
    pick (ltb at (length text)) (position (at + 1) (move here (symbol_at text at))) (position at here)

-- The position of the byte `to`, from the byte at `at`, which stands at this line and column.
unfoldable pub moved_to : List ℕ → ℕ → ℕ → ℕ → ℕ → Position
moved_to text at line column to = position to (place_from (record { line = line; column = column }) (to - at) (drop at text))

-- What is passed over with a comment whose mark is at `at`, which stands at this line and column: to where it has ended; or the place of its
-- mark, if it does not end.
unfoldable pub passed : List ℕ → ℕ → ℕ → ℕ → Result ℕ (Fault ℕ) → Result Position Place
passed text at line column (Ok to) = Ok (moved_to text at line column to)
passed text at line column (Err f) = Err (record { line = line; column = column })

unfoldable pub passed_comment : List ℕ → ℕ → ℕ → ℕ → Result Position Place
passed_comment text at line column = passed text at line column (comment_end at 0 (at + 1) (drop (at + 1) text))

-- A text of at most 1,048,576 bytes, and a line and a column that are no larger: they stay small wherever one goes in the text.
pub record Bounded (text : List ℕ) (line column : ℕ) : Type 0 where
  pub short : length text ≤ 1048576
  pub few_lines : line ≤ 1048576
  pub few_columns : column ≤ 1048576

-- Where a text begins.
abbrev pub start : Position
start = record { at = 0; line = 1; column = 1 }

-- A lexer of a text, at a position in it; and the place at which a lexer is.
abbrev pub lexer_at : Bor (List ℕ) → Position → Lexer
lexer_at text p = record { text = text; at = p.at; line = p.line; column = p.column }

abbrev pub place_of : Lexer → Place
place_of l = record { line = l.line; column = l.column }
