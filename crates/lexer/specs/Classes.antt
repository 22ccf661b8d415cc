-- The class of each byte, and its symbol: the byte in its context.
use Rattle.std.specs.Prelude.{ℕ, leb, ltb, eqb, Bool, true, false, ◌&&◌, ◌||◌, List, [], ◌∷◌}
use Rattle.lexer.specs.Base.{pick, among, bytes, byte}
use Rattle.lexer.specs.declared.Class.{Class}
use Rattle.lexer.specs.declared.Symbol.{Symbol}

-- The 17 punctuation marks.
unfoldable pub marks : List ℕ
marks = bytes "(){}]/\\,;:=*`<>^+"

-- The class of a byte. White_Space among the ASCII bytes is LF and CR (newlines), TAB, VT (11), FF (12) and the space (blanks).
unfoldable pub class : ℕ → Class
class b =
    pick (eqb b (byte "\n") || eqb b (byte "\r")) Class.Newline
    (pick (eqb b (byte "\t") || eqb b 11 || eqb b 12 || eqb b (byte " ")) Class.Blank
    (pick (eqb b (byte "'") || eqb b (byte "\"")) Class.Quote
    (pick (eqb b (byte "[")) Class.Comment
    (pick (among b marks) Class.Punctuation
    (pick (ltb b 128) Class.Other
    Class.Part)))))

-- Do these two bytes come next?
unfoldable pub next2 : ℕ → ℕ → List ℕ → Bool
next2 a b [] = false
next2 a b (x ∷ []) = false
next2 a b (x ∷ y ∷ r) = eqb x a && eqb y b

-- Does this byte come next?
unfoldable pub next1 : ℕ → List ℕ → Bool
next1 a [] = false
next1 a (x ∷ r) = eqb x a

-- After the bytes 226 and 128 the blanks are U+2000 to U+200A, U+2028, U+2029 and U+202F.
unfoldable pub general : ℕ → Bool
general b = (leb 128 b && leb b 138) || eqb b 168 || eqb b 169 || eqb b 175

-- Do these bytes, behind the byte 226, go on with one of those blanks or with U+205F?
unfoldable pub general_blank : List ℕ → Bool
general_blank [] = false
general_blank (x ∷ []) = false
general_blank (x ∷ y ∷ r) = (eqb x 128 && general y) || (eqb x 129 && eqb y 159)

-- Does a character of White_Space beyond ASCII begin with this byte before these? They are U+0085, U+00A0, U+1680, U+2000 to U+200A,
-- U+2028, U+2029, U+202F, U+205F and U+3000.
unfoldable pub wide_blank : ℕ → List ℕ → Bool
wide_blank b r =
    (eqb b 194 && (next1 133 r || next1 160 r))
    || (eqb b 225 && next2 154 128 r)
    || (eqb b 226 && general_blank r)
    || (eqb b 227 && next2 128 128 r)

-- The symbol of a byte of this class before these bytes: a CR before an LF is no newline of its own, and a longer character has the symbol
-- of what it is at its first byte.
unfoldable pub symbol_of : Class → ℕ → List ℕ → Symbol
symbol_of Class.Newline b r = pick (eqb b (byte "\r") && next1 (byte "\n") r) Symbol.Return Symbol.Newline
symbol_of Class.Blank b r = Symbol.Blank
symbol_of Class.Quote b r = pick (eqb b (byte "'")) Symbol.Single Symbol.Double
symbol_of Class.Comment b r = Symbol.Open
symbol_of Class.Punctuation b r = pick (eqb b (byte "]")) Symbol.Close Symbol.Punctuation
symbol_of Class.Other b r = Symbol.Other
symbol_of Class.Part b r = pick (ltb b 192) Symbol.Part (pick (wide_blank b r) Symbol.Blank Symbol.Other)

-- The symbol of a byte before these bytes.
unfoldable pub symbol : ℕ → List ℕ → Symbol
symbol b r = symbol_of (class b) b r

-- Symbols are told apart by their place in the list of all.
unfoldable pub rank : Symbol → ℕ
rank Symbol.Newline = 0
rank Symbol.Return = 1
rank Symbol.Blank = 2
rank Symbol.Single = 3
rank Symbol.Double = 4
rank Symbol.Open = 5
rank Symbol.Close = 6
rank Symbol.Punctuation = 7
rank Symbol.Other = 8
rank Symbol.Part = 9

-- Which symbol is it?
unfoldable pub is_newline : Symbol → Bool
is_newline s = eqb (rank s) 0

unfoldable pub is_return : Symbol → Bool
is_return s = eqb (rank s) 1

unfoldable pub is_blank : Symbol → Bool
is_blank s = eqb (rank s) 2

unfoldable pub is_single : Symbol → Bool
is_single s = eqb (rank s) 3

unfoldable pub is_double : Symbol → Bool
is_double s = eqb (rank s) 4

unfoldable pub is_open : Symbol → Bool
is_open s = eqb (rank s) 5

unfoldable pub is_close : Symbol → Bool
is_close s = eqb (rank s) 6

unfoldable pub is_other : Symbol → Bool
is_other s = eqb (rank s) 8

unfoldable pub is_part : Symbol → Bool
is_part s = eqb (rank s) 9

-- Is the symbol White_Space? The later bytes of a longer character go with its first.
unfoldable pub is_space : Symbol → Bool
is_space s = is_newline s || is_return s || is_blank s

-- Is a text all White_Space? The empty text is.
unfoldable pub blank : List ℕ → Bool
blank [] = true
blank (b ∷ r) = let s = symbol b r in let more = blank r in (is_space s || is_part s) && more
