-- Tokens: the text cut into words, quoted texts, punctuation marks and newlines. Comments and blanks part tokens and are none; a comment
-- inside a word parts nothing.
use Rattle.std.specs.Prelude.{ℕ, zero, suc, eqb, Bool, false, ◌&&◌, ◌||◌, not, List, [], ◌∷◌}
use Rattle.std.proofs.Math.Option.{Option, none, some}
use Rattle.lexer.specs.Base.{pick, byte}
use Rattle.lexer.specs.Classes.{symbol, is_newline, is_return, is_blank, is_single, is_double, is_open, is_close, is_other, is_part}
use Rattle.lexer.specs.declared.Kind.{Kind}
use Rattle.lexer.specs.declared.Mode.{Mode}
use Rattle.lexer.specs.declared.Symbol.{Symbol}
use Rattle.lexer.specs.declared.refusal.Refusal.{Refusal}

-- A token: its kind, and its text without quotes and comments.
pub record Token : Type 0 where
  pub kind : Kind
  pub text : List ℕ

-- The mode after a byte between two tokens.
unfoldable pub after_between : Symbol → Mode
after_between s =
    pick (is_single s) Mode.Quoted
    (pick (is_double s) Mode.String
    (pick (is_open s) (Mode.Comment 0)
    (pick (is_other s) Mode.Word
    Mode.Between)))

-- After a byte in a word: a comment and the later bytes of a character go on with the word, and a quote ends it.
unfoldable pub after_word : Symbol → Mode
after_word s = pick (is_open s) (Mode.WordComment 0) (pick (is_part s) Mode.Word (after_between s))

-- In a comment that so many others are open around: a closing bracket goes back to the one around it, or to what was there before.
unfoldable pub up : Mode → (ℕ → Mode) → ℕ → Mode
up before inside zero = before
up before inside (suc d) = inside d

-- After a byte in a comment.
unfoldable pub after_comment : Mode → (ℕ → Mode) → ℕ → Symbol → Mode
after_comment before inside d s = pick (is_open s) (inside (suc d)) (pick (is_close s) (up before inside d) (inside d))

-- The mode after a byte with this symbol. A quote in single-quoted text closes it unless another follows at once.
unfoldable pub next : Mode → Symbol → Mode
next Mode.Between s = after_between s
next Mode.Word s = after_word s
next Mode.Quoted s = pick (is_single s) Mode.Closing Mode.Quoted
next Mode.Closing s = pick (is_single s) Mode.Quoted (after_between s)
next Mode.String s = pick (is_double s) Mode.Between Mode.String
next (Mode.Comment d) s = after_comment Mode.Between Mode.Comment d s
next (Mode.WordComment d) s = after_comment Mode.Word Mode.WordComment d s

-- The byte as it stands in quoted text: every newline is LF.
unfoldable pub quoted_byte : Symbol → ℕ → ℕ
quoted_byte s b = pick (is_newline s) (byte "\n") b

-- What a byte adds to the text of the token that is open, in front of what the rest adds. The CR of a CR LF adds nothing.
unfoldable pub text_step : Mode → Symbol → ℕ → List ℕ → List ℕ
text_step Mode.Between s b more = []
text_step Mode.Word s b more =
    let this = b ∷ more in
    pick (is_open s) more (pick (is_other s || is_part s) this [])
text_step Mode.Quoted s b more =
    let this = quoted_byte s b ∷ more in
    pick (is_single s || is_return s) more this
text_step Mode.Closing s b more =
    let this = b ∷ more in
    pick (is_single s) this []
text_step Mode.String s b more =
    let this = quoted_byte s b ∷ more in
    pick (is_double s) [] (pick (is_return s) more this)
text_step (Mode.Comment d) s b more = []
text_step (Mode.WordComment d) s b more = more

-- The rest of the text of the token that is open.
unfoldable pub tail : Mode → List ℕ → List ℕ
tail m [] = []
tail m (b ∷ r) =
    let s = symbol b r in
    let more = tail (next m s) r in
    text_step m s b more

-- Does a token begin at a byte with this symbol?
unfoldable pub begins_between : Symbol → Bool
begins_between s = not (is_return s || is_blank s || is_open s || is_part s)

-- Does one begin there in this mode? None begins in quotes or in a comment, and a byte of a word begins no other.
unfoldable pub begins : Mode → Symbol → Bool
begins Mode.Between s = begins_between s
begins Mode.Word s = begins_between s && not (is_other s)
begins Mode.Quoted s = false
begins Mode.Closing s = begins_between s && not (is_single s)
begins Mode.String s = false
begins (Mode.Comment d) s = false
begins (Mode.WordComment d) s = false

-- The kind of the token that begins at a byte with this symbol.
unfoldable pub kind_of : Symbol → ℕ → Kind
kind_of s b =
    pick (is_newline s) Kind.Newline
    (pick (is_single s) Kind.Quoted
    (pick (is_double s) Kind.String
    (pick (is_other s) Kind.Word
    (Kind.Punctuation b))))

-- Its text, where the rest stands behind the byte.
unfoldable pub text_of : Symbol → ℕ → List ℕ → List ℕ
text_of s b r =
    let quoted = tail Mode.Quoted r in
    let string = tail Mode.String r in
    let word = b ∷ tail Mode.Word r in
    pick (is_newline s) []
    (pick (is_single s) quoted
    (pick (is_double s) string
    (pick (is_other s) word
    (b ∷ []))))

-- The token that begins at a byte, where the rest stands behind it.
unfoldable pub token : ℕ → List ℕ → Token
token b r = let s = symbol b r in record { kind = kind_of s b; text = text_of s b r }

-- What the end of the text leaves open is a last token of its own kind.
unfoldable pub unclosed : Mode → List Token
unclosed Mode.Between = []
unclosed Mode.Word = []
unclosed Mode.Quoted = record { kind = Kind.OpenQuote; text = [] } ∷ []
unclosed Mode.Closing = []
unclosed Mode.String = record { kind = Kind.OpenQuote; text = [] } ∷ []
unclosed (Mode.Comment d) = record { kind = Kind.OpenComment; text = [] } ∷ []
unclosed (Mode.WordComment d) = record { kind = Kind.OpenComment; text = [] } ∷ []

-- The tokens that begin in the rest of a text.
unfoldable pub tokens_from : Mode → List ℕ → List Token
tokens_from m [] = unclosed m
tokens_from m (b ∷ r) =
    let s = symbol b r in
    let more = tokens_from (next m s) r in
    let this = token b r ∷ more in
    pick (begins m s) this more

-- Does the text begin with a byte order mark, U+FEFF? It is skipped there and nowhere else.
unfoldable pub marked : List ℕ → Bool
marked [] = false
marked (a ∷ []) = false
marked (a ∷ b ∷ []) = false
marked (a ∷ b ∷ c ∷ r) = eqb a 239 && eqb b 187 && eqb c 191

-- The text without that mark.
unfoldable pub unmarked : List ℕ → List ℕ
unmarked [] = []
unmarked (a ∷ []) = a ∷ []
unmarked (a ∷ b ∷ []) = a ∷ b ∷ []
unmarked (a ∷ b ∷ c ∷ r) = let all = a ∷ b ∷ c ∷ r in pick (marked all) r all

-- The tokens of a text.
unfoldable pub tokens : List ℕ → List Token
tokens text = tokens_from Mode.Between (unmarked text)

-- 4 or 5 where a token of this kind is what the end of the text leaves open, else what the later tokens say.
unfoldable pub open_kind : Kind → Option Refusal → Option Refusal
open_kind Kind.Word more = more
open_kind Kind.Quoted more = more
open_kind Kind.String more = more
open_kind (Kind.Punctuation b) more = more
open_kind Kind.Newline more = more
open_kind Kind.OpenQuote more = some Refusal.OpenQuote
open_kind Kind.OpenComment more = some Refusal.OpenComment

-- The refusal of a text that leaves a quote or a comment open: 4 or 5.
unfoldable pub left_open : List Token → Option Refusal
left_open [] = none
left_open (t ∷ r) = let more = left_open r in open_kind t.kind more
