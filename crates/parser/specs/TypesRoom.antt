-- Where the types of a set are stored.
use Rattle.std.specs.Prelude.{ℕ, ◌&&◌, not, Some, None, Option}
use Rattle.commands.specs.WorkMap.{map_fits, types_place}
use Rattle.lexer.specs.Base.{pick}
use Rattle.commands.specs.declared.state.Held.{Held}

-- In work memory of so many numbers, behind so many tokens: at the place of the map, if that fits and the matrix does not read from there yet. Without
-- a matrix there is no character, and room for its type anywhere.
unfoldable pub types_room : ℕ → ℕ → Option Held → Option (ℕ × ℕ)
types_room size count None = Some (count, 0)
types_room size count (Some h) =
    let place = types_place count h.lines h.taxa h.characters in
    pick (map_fits size count h.lines h.taxa h.characters && not h.typed) (Some (place, h.characters)) None
