-- Places: where each token begins, and the line and column of a byte.
use Rattle.std.specs.Prelude.{ℕ, zero, suc, Bool, false, ◌&&◌, ◌||◌, not, List, [], ◌∷◌}
use Rattle.lexer.specs.Base.{pick}
use Rattle.lexer.specs.Classes.{symbol, is_newline, is_return, is_single, is_double, is_open, is_part}
use Rattle.lexer.specs.Tokens.{next, begins, marked, unmarked}
use Rattle.lexer.specs.declared.Mode.{Mode}
use Rattle.lexer.specs.declared.Place.{Place}
use Rattle.lexer.specs.declared.Symbol.{Symbol}

-- The place after a byte: a newline begins a line; a CR before an LF and the later bytes of a character take no column.
unfoldable pub move : Place → Symbol → Place
move p s =
    pick (is_newline s) (record { line = suc p.line; column = 1 })
    (pick (is_return s || is_part s) p
    (record { line = p.line; column = suc p.column }))

-- The place after so many bytes of a rest that begins at this place.
unfoldable pub place_from : Place → ℕ → List ℕ → Place
place_from p zero text = p
place_from p (suc n) [] = p
place_from p (suc n) (b ∷ r) = place_from (move p (symbol b r)) n r

-- The place of the byte that stands after so many others.
unfoldable pub place : List ℕ → ℕ → Place
place text at = place_from (record { line = 1; column = 1 }) at text

-- The place of what has none.
unfoldable pub nowhere : Place
nowhere = record { line = 0; column = 0 }

-- Where the tokens begin that begin in the rest of a text, of which so many bytes have passed.
unfoldable pub starts_from : Mode → ℕ → List ℕ → List ℕ
starts_from m i [] = []
starts_from m i (b ∷ r) =
    let s = symbol b r in
    let more = starts_from (next m s) (suc i) r in
    let this = i ∷ more in
    pick (begins m s) this more

-- Where a text begins, behind a byte order mark.
unfoldable pub first_byte : List ℕ → ℕ
first_byte text = pick (marked text) 3 0

-- Where the tokens of a text begin.
unfoldable pub starts : List ℕ → List ℕ
starts text = starts_from Mode.Between (first_byte text) (unmarked text)

-- Does a quote or an outermost comment begin at a byte with this symbol?
unfoldable pub opens_between : Symbol → Bool
opens_between s = is_single s || is_double s || is_open s

-- Does one begin there in this mode? None begins in quotes or in a comment, and a doubled quote begins none.
unfoldable pub opens : Mode → Symbol → Bool
opens Mode.Between s = opens_between s
opens Mode.Word s = opens_between s
opens Mode.Quoted s = false
opens Mode.Closing s = opens_between s && not (is_single s)
opens Mode.String s = false
opens (Mode.Comment d) s = false
opens (Mode.WordComment d) s = false

-- Where the quote or the comment begins that is open at the end; `since` is the last opening mark passed.
unfoldable pub opened_from : Mode → ℕ → ℕ → List ℕ → ℕ
opened_from m since i [] = since
opened_from m since i (b ∷ r) =
    let s = symbol b r in
    opened_from (next m s) (pick (opens m s) i since) (suc i) r

-- Where what a text leaves open begins.
unfoldable pub opened : List ℕ → ℕ
opened text = opened_from Mode.Between 0 (first_byte text) (unmarked text)
