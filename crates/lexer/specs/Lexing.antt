-- What lexing a text answers, and the token that begins at a byte.
use Rattle.std.specs.Prelude.{ℕ, ◌+◌, ◌*◌, leb, length, drop, List, [], ◌∷◌, Ok, Err, Result}
use Rattle.std.proofs.Math.Option.{Option, none, some}
use Rattle.lexer.specs.Base.{pick}
use Rattle.lexer.specs.Places.{place, nowhere, starts, opened}
use Rattle.lexer.specs.Tokens.{Token, token, tokens, left_open}
use Rattle.lexer.specs.Utf8.{utf8}
use Rattle.lexer.specs.Words.{Numbered}
use Rattle.lexer.specs.declared.Kind.{Kind}
use Rattle.lexer.specs.declared.refusal.Refusal.{Refusal}
use Rattle.lexer.specs.declared.Fault.{Fault}
use Rattle.lexer.specs.Refusals.{fault}
use Rattle.lexer.specs.declared.Place.{Place}

-- The longest text, and the longest written form.
unfoldable pub longest : ℕ
longest = 1048576

-- How many numbers of work memory a text of so many bytes needs.
unfoldable pub work_needed : ℕ → ℕ
work_needed n = 4 * n + 64

-- The count of a text's tokens; or 4 or 5, at the mark that opens what stays open.
unfoldable pub counted : List ℕ → Option Refusal → Result ℕ (Fault Place)
counted text none = Ok (length (starts text))
counted text (some n) = Err (fault n (place text (opened text)))

-- In order: 1 text too long, 2 work memory short, 3 not UTF-8, then 4 and 5.
unfoldable pub lexed : List ℕ → ℕ → Result ℕ (Fault Place)
lexed text work =
    let closed = counted text (left_open (tokens text)) in
    let valid = pick (utf8 text) closed (Err (fault Refusal.NotUtf8 nowhere)) in
    let enough = pick (leb (work_needed (length text)) work) valid (Err (fault Refusal.WorkMemoryShort nowhere)) in
    pick (leb (length text) longest) enough (Err (fault Refusal.TextTooLong nowhere))

-- The token that begins at the front of these bytes.
unfoldable pub first_token : List ℕ → Token
first_token [] = record { kind = Kind.Word; text = [] }
first_token (b ∷ r) = token b r

-- The token that begins at a byte of a text, by itself.
unfoldable pub token_at : List ℕ → ℕ → Token
token_at text start = first_token (drop start text)

-- The same with an index, for the tests of specs/Words.antt, which do not look at it.
unfoldable pub word_at : List ℕ → ℕ → Numbered
word_at text start = record { index = 0; token = token_at text start }
