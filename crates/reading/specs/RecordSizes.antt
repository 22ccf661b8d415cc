-- How long the record of a matrix that work memory holds can be, told without a look at its cells.
use Rattle.std.specs.Prelude.{ℕ, ◌+◌, ◌*◌, ◌≤◌, min, leb, length, take, List}
use Rattle.block.specs.Sound.{Sound}
use Rattle.commands.specs.MatrixHeld.{format_held, reading_held}
use Rattle.commands.specs.declared.state.Held.{Held}
use Rattle.emit.specs.Puts.{last_place}
use Rattle.lexer.specs.Base.{pick}
use Rattle.record.specs.Spell.{spell}

-- What is held, but without the words of its cells: they end before the first token.
unfoldable pub bare : Held → Held
bare h =
    record {
      names = h.names;
      style = h.style;
      head = h.head;
      to = 0;
      lines = h.lines;
      taxa = h.taxa;
      characters = h.characters;
      default = h.default;
      typed = h.typed;
    }

-- The most bytes that a cell takes with its blank, where there are so many symbols: those of a set of them all, each index with a dot.
unfoldable pub widest : ℕ → ℕ
widest states = pick (leb states 10) (2 * states + 2) (3 * states + 2)

-- If the format has no more symbols than the code's format can hold, and what is held is a reading, its record is no longer than this, or this is the
-- largest place, behind which no buffer goes.
abbrev pub Longest : List ℕ → List ℕ → ℕ → Held → ℕ → Type 0
Longest text work count h r =
    length (format_held text (take count work) h.style).symbols ≤ 74 → Sound (reading_held text work count h)
    → min last_place (length (spell (reading_held text work count h))) ≤ r
