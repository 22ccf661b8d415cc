-- Cases of the lexer, by computation: tokens, places, names that are alike. Assumes nothing.
use Prim.Native.Nat.{ℕ}
use Rattle.lexer.specs.Base.{bytes, alike}
use Rattle.lexer.specs.Places.{place, starts, opened}
use Rattle.lexer.specs.Run.{run_tokens}
use Rattle.lexer.specs.Tokens.{Token, left_open}
use Rattle.lexer.specs.declared.Kind.{Kind}
use Rattle.lexer.specs.declared.Place.{Place}
use Rattle.lexer.specs.declared.refusal.Refusal.{Refusal}
use mathlib.Core.Bool.{true, false}
use mathlib.Core.List.{List, [], ◌∷◌, map}
use mathlib.Core.Option.{none, some}
use mathlib.Core.Path.{◌≡◌, refl}

word : List ℕ → Token
word text = record { kind = Kind.Word; text = text }

quoted : List ℕ → Token
quoted text = record { kind = Kind.Quoted; text = text }

string : List ℕ → Token
string text = record { kind = Kind.String; text = text }

mark : ℕ → Token
mark b = record { kind = Kind.Punctuation b; text = b ∷ [] }

newline : Token
newline = record { kind = Kind.Newline; text = [] }

at : ℕ → ℕ → Place
at l c = record { line = l; column = c }

-- A comment inside a word joins its halves; a comment before it does not belong to it.
joined_word : run_tokens (bytes "[x]ab[c]d e") ≡ word (bytes "abd") ∷ word (bytes "e") ∷ []
unfolding run_tokens word
joined_word = refl

-- Comments nest, and quotes mean nothing in them.
nested-comments : run_tokens (bytes "a [ ' [b] \" ] c") ≡ word (bytes "a") ∷ word (bytes "c") ∷ []
unfolding run_tokens word
nested-comments = refl

-- A doubled single quote is one; double quotes have no such rule.
doubled-quotes : run_tokens (bytes "'a''b'\"c\"\"d\"") ≡ quoted (bytes "a'b") ∷ string (bytes "c") ∷ string (bytes "d") ∷ []
unfolding run_tokens quoted string
doubled-quotes = refl

-- A quote ends a word, and so does punctuation; `-`, `.` and `_` do not.
ends-of-words : run_tokens (bytes "a'b'c+1-2.3_4]") ≡ word (bytes "a") ∷ quoted (bytes "b") ∷ word (bytes "c") ∷ mark 43 ∷ word (bytes "1-2.3_4") ∷ mark 93 ∷ []
unfolding run_tokens word quoted mark
ends-of-words = refl

-- LF, CR and CR LF are each one newline; in quoted text each is LF.
newlines : run_tokens (bytes "a\nb\rc\r\n'\r\n\r\n'") ≡ word (bytes "a") ∷ newline ∷ word (bytes "b") ∷ newline ∷ word (bytes "c") ∷ newline ∷ quoted (bytes "\n\n") ∷ []
unfolding run_tokens word quoted newline
newlines = refl

-- A byte order mark is skipped at the front alone.
marks-of-order : run_tokens (239 ∷ 187 ∷ 191 ∷ 239 ∷ 187 ∷ 191 ∷ 88 ∷ []) ≡ word (239 ∷ 187 ∷ 191 ∷ 88 ∷ []) ∷ []
unfolding run_tokens word
marks-of-order = refl

-- U+00A0 and U+3000 are blanks; U+200B is none.
wide-blanks : run_tokens (97 ∷ 194 ∷ 160 ∷ 98 ∷ 227 ∷ 128 ∷ 128 ∷ 99 ∷ 226 ∷ 128 ∷ 139 ∷ 100 ∷ []) ≡ word (bytes "a") ∷ word (bytes "b") ∷ word (99 ∷ 226 ∷ 128 ∷ 139 ∷ 100 ∷ []) ∷ []
unfolding run_tokens word
wide-blanks = refl

-- An open quote, also after a doubled one, and an open comment are a last token.
open-quote : map left_open (run_tokens (bytes "a '''") ∷ run_tokens (bytes "a[[]") ∷ run_tokens (bytes "a''") ∷ []) ≡ some Refusal.OpenQuote ∷ some Refusal.OpenComment ∷ none ∷ []
unfolding run_tokens
open-quote = refl

-- Columns count characters: a longer character takes one, the mark in front one, CR LF none.
placed : List ℕ → List Place
placed text = map (place text) (starts text)

columns-in-characters : placed (195 ∷ 169 ∷ 32 ∷ 88 ∷ []) ≡ at 1 1 ∷ at 1 3 ∷ []
unfolding run_tokens placed at
columns-in-characters = refl

column-of-the-mark : placed (239 ∷ 187 ∷ 191 ∷ 88 ∷ []) ≡ at 1 2 ∷ []
unfolding run_tokens placed at
column-of-the-mark = refl

lines-and-columns : placed (bytes "a\r\n\tb\n\rc") ≡ at 1 1 ∷ at 1 2 ∷ at 2 2 ∷ at 2 3 ∷ at 3 1 ∷ at 4 1 ∷ []
unfolding run_tokens placed at
lines-and-columns = refl

-- Of nested comments the outermost is the one that is open, and it is at its own mark, inside a word too.
open-mark : opened (bytes "ab[ [] [") ≡ 2
unfolding run_tokens
open-mark = refl

-- Names are alike ignoring ASCII case, and no other.
ascii-case : alike (bytes "aBc") (bytes "AbC") ≡ true
unfolding run_tokens
ascii-case = refl

no-other-case : alike (195 ∷ 137 ∷ []) (195 ∷ 169 ∷ []) ≡ false
unfolding run_tokens
no-other-case = refl
