-- What a token can be taken for: a keyword, a punctuation mark, a name, a number.
use Rattle.std.specs.Prelude.{ℕ, suc, ◌+◌, ◌*◌, ◌-◌, ◌^◌, leb, eqb, Bool, true, false, ◌&&◌, ◌||◌, not, List, [], ◌∷◌}
use Rattle.std.proofs.Math.Option.{Option, none, some}
use Rattle.lexer.specs.Base.{pick, alike, byte}
use Rattle.lexer.specs.Classes.{blank}
use Rattle.lexer.specs.Tokens.{Token}
use Rattle.lexer.specs.declared.Kind.{Kind}

-- A token and its index among the tokens of the text, by which a refusal names it.
pub record Numbered : Type 0 where
  pub index : ℕ
  pub token : Token

-- Tokens with their indices, of which the first is this one.
unfoldable pub numbered : ℕ → List Token → List Numbered
numbered i [] = []
numbered i (t ∷ ts) = let more = numbered (suc i) ts in record { index = i; token = t } ∷ more

-- Which kind is it?
unfoldable pub is_word : Kind → Bool
is_word Kind.Word = true
is_word Kind.Quoted = false
is_word Kind.String = false
is_word (Kind.Punctuation b) = false
is_word Kind.Newline = false
is_word Kind.OpenQuote = false
is_word Kind.OpenComment = false

unfoldable pub is_quoted : Kind → Bool
is_quoted Kind.Word = false
is_quoted Kind.Quoted = true
is_quoted Kind.String = false
is_quoted (Kind.Punctuation b) = false
is_quoted Kind.Newline = false
is_quoted Kind.OpenQuote = false
is_quoted Kind.OpenComment = false

unfoldable pub is_string : Kind → Bool
is_string Kind.Word = false
is_string Kind.Quoted = false
is_string Kind.String = true
is_string (Kind.Punctuation b) = false
is_string Kind.Newline = false
is_string Kind.OpenQuote = false
is_string Kind.OpenComment = false

unfoldable pub is_line_end : Kind → Bool
is_line_end Kind.Word = false
is_line_end Kind.Quoted = false
is_line_end Kind.String = false
is_line_end (Kind.Punctuation b) = false
is_line_end Kind.Newline = true
is_line_end Kind.OpenQuote = false
is_line_end Kind.OpenComment = false

-- Is it this punctuation is_mark
unfoldable pub is_mark : ℕ → Kind → Bool
is_mark c Kind.Word = false
is_mark c Kind.Quoted = false
is_mark c Kind.String = false
is_mark c (Kind.Punctuation b) = eqb b c
is_mark c Kind.Newline = false
is_mark c Kind.OpenQuote = false
is_mark c Kind.OpenComment = false

-- Is the token this keyword? Only a word is one; ASCII case is ignored.
unfoldable pub is : List ℕ → Numbered → Bool
is key w = let t = alike key w.token.text in is_word w.token.kind && t

-- Is the token this punctuation is_mark
unfoldable pub punct : ℕ → Numbered → Bool
punct c w = is_mark c w.token.kind

-- A name with each `_` as a blank.
unfoldable pub spaced : List ℕ → List ℕ
spaced [] = []
spaced (b ∷ r) = pick (eqb b (byte "_")) (byte " ") b ∷ spaced r

-- The name that a token is: a word or single-quoted text that is not all blank before `_` becomes a blank.
unfoldable pub label : Numbered → Option (List ℕ)
label w =
    let k = w.token.kind in
    let name = some (spaced w.token.text) in
    pick ((is_word k || is_quoted k) && not (blank w.token.text)) name none

-- The value of decimal digits behind a number so far; 0 if there is another byte among them.
unfoldable pub digits : ℕ → List ℕ → ℕ
digits n [] = n
digits n (b ∷ r) =
    let more = digits (n * 10 + (b - byte "0")) r in
    pick (leb (byte "0") b && leb b (byte "9")) more 0

-- The largest number of 64 bits.
unfoldable pub largest : ℕ
largest = 2 ^ 64 - 1

-- The number that a text spells, of any size: one `+` or none, then digits; else 0.
unfoldable pub unsigned : List ℕ → ℕ
unsigned [] = 0
unsigned (b ∷ r) =
    let all = digits 0 (b ∷ r) in
    let rest = digits 0 r in
    pick (eqb b (byte "+")) rest all

-- The positive number that a text spells, as the Rust's `parse::<usize>` reads it: that, where it has at most 64 bits; else 0.
unfoldable pub positive : List ℕ → ℕ
positive text = let n = unsigned text in pick (leb n largest) n 0

-- The positive number that a token spells, whatever its kind; 0 if it spells none. Every number of a text is read by this.
unfoldable pub number : Numbered → ℕ
number w = positive w.token.text
