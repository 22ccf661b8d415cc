-- The bytes of a token's text, one after the other, as they stand in the text.
use Rattle.std.specs.Prelude.{ℕ, zero, suc, ◌+◌, eqb, drop, List, [], ◌∷◌, Some, None, Option}
use Rattle.lexer.specs.Base.{pick, byte}
use Rattle.lexer.specs.ByteBlocks.{plain_end}
use Rattle.lexer.specs.Classes.{symbol, next1, is_newline, is_single, is_double, is_open, is_other}
use Rattle.lexer.specs.Scanning.{symbol_at, goes_on}
use Rattle.lexer.specs.Tokens.{tail}
use Rattle.lexer.specs.declared.Cursor.{Cursor}
use Rattle.lexer.specs.declared.Mode.{Mode}
use Rattle.lexer.specs.declared.Symbol.{Symbol}

-- A cursor in the mode of a token's kind. Between two tokens it stands at a mark; in a comment nothing is left of a text.
abbrev pub cursor : Mode → ℕ → Cursor
cursor m i = record { at = i; mode = m }

-- The cursor at the front of the text of a token that begins with this symbol: a newline has no text, and a quoted one stands behind its mark.
unfoldable pub front_of : Symbol → ℕ → Cursor
front_of s i =
    pick (is_newline s) (cursor (Mode.Comment 0) i)
    (pick (is_single s) (cursor Mode.Quoted (i + 1))
    (pick (is_double s) (cursor Mode.String (i + 1))
    (pick (is_other s) (cursor Mode.Word i)
    (cursor Mode.Between i))))

-- The same of the token that begins at a byte of a text.
unfoldable pub front_at : List ℕ → ℕ → Cursor
front_at text start = front_of (symbol_at text start) start

-- The next byte of a word and the cursor behind it: comments are passed over, of which so many are open. `i` is where the rest stands.
unfoldable pub word_item : ℕ → ℕ → List ℕ → Option (ℕ × Cursor)
word_item d i [] = None
word_item zero i (b ∷ r) =
    let s = symbol b r in
    let comment = word_item 1 (suc i) r in
    let this = Some (b, (cursor Mode.Word (suc i))) in
    pick (is_open s) comment (pick (goes_on s) this None)
word_item (suc d) i (b ∷ r) =
    let deeper = word_item (suc (suc d)) (suc i) r in
    let same = word_item (suc d) (suc i) r in
    let outer = word_item d (suc i) r in
    pick (eqb b (byte "[")) deeper (pick (eqb b (byte "]")) outer same)

-- A byte of quoted text: every newline is LF, and a CR LF is one.
unfoldable pub text_item : Mode → ℕ → List ℕ → Option (ℕ × Cursor)
text_item m i [] = None
text_item m i (b ∷ r) =
    let behind = pick (next1 (byte "\n") r) (i + 2) (i + 1) in
    pick (eqb b (byte "\r")) (Some ((byte "\n"), (cursor m behind))) (Some (b, (cursor m (i + 1))))

-- Of single-quoted text: two quotes are one, and one is the end.
unfoldable pub quoted_item : ℕ → List ℕ → Option (ℕ × Cursor)
quoted_item i [] = None
quoted_item i (b ∷ r) =
    let quote = Some ((byte "'"), (cursor Mode.Quoted (i + 2))) in
    let this = text_item Mode.Quoted i (b ∷ r) in
    pick (eqb b (byte "'")) (pick (next1 (byte "'") r) quote None) this

-- Of double-quoted text.
unfoldable pub string_item : ℕ → List ℕ → Option (ℕ × Cursor)
string_item i [] = None
string_item i (b ∷ r) = let this = text_item Mode.String i (b ∷ r) in pick (eqb b (byte "\"")) None this

-- A mark is one byte.
unfoldable pub mark_item : ℕ → List ℕ → Option (ℕ × Cursor)
mark_item i [] = None
mark_item i (b ∷ r) = Some (b, (cursor (Mode.Comment 0) (i + 1)))

-- The next byte in the mode of a token's kind. The modes inside a quoted text's end and a word's comment are no cursor's.
unfoldable pub item_of : Mode → ℕ → List ℕ → Option (ℕ × Cursor)
item_of Mode.Between i r = mark_item i r
item_of Mode.Word i r = word_item 0 i r
item_of Mode.Quoted i r = quoted_item i r
item_of Mode.Closing i r = None
item_of Mode.String i r = string_item i r
item_of (Mode.Comment d) i r = None
item_of (Mode.WordComment d) i r = None

-- The next byte behind a cursor.
unfoldable pub next_item : List ℕ → Cursor → Option (ℕ × Cursor)
next_item text c = item_of c.mode c.at (drop c.at text)

-- The cursor behind the plain bytes from a place on, in the mode of a token's kind: only a word is passed over so.
unfoldable pub run_of : Mode → ℕ → List ℕ → Cursor
run_of Mode.Between i r = cursor Mode.Between i
run_of Mode.Word i r = cursor Mode.Word (plain_end i r)
run_of Mode.Quoted i r = cursor Mode.Quoted i
run_of Mode.Closing i r = cursor Mode.Closing i
run_of Mode.String i r = cursor Mode.String i
run_of (Mode.Comment d) i r = cursor (Mode.Comment d) i
run_of (Mode.WordComment d) i r = cursor (Mode.WordComment d) i

-- The cursor behind the plain bytes from a cursor on.
unfoldable pub run_behind : List ℕ → Cursor → Cursor
run_behind text c = run_of c.mode c.at (drop c.at text)

-- The first byte alone.
unfoldable pub first : List ℕ → List ℕ
first [] = []
first (b ∷ r) = b ∷ []

-- What is left of the text of a token, in the mode of its kind.
unfoldable pub rest_of : Mode → List ℕ → List ℕ
rest_of Mode.Between r = first r
rest_of Mode.Word r = tail Mode.Word r
rest_of Mode.Quoted r = tail Mode.Quoted r
rest_of Mode.Closing r = []
rest_of Mode.String r = tail Mode.String r
rest_of (Mode.Comment d) r = []
rest_of (Mode.WordComment d) r = []

-- What is left of a token's text behind a cursor.
unfoldable pub left : List ℕ → Cursor → List ℕ
left text c = rest_of c.mode (drop c.at text)
