-- Where what a mark opens has ended: the same as the modes say, but from mark to mark, as the code goes.
use Rattle.std.specs.Prelude.{ℕ, zero, suc, eqb, drop, Bool, true, false, ◌||◌, List, [], ◌∷◌, Ok, Err, Result}
use Rattle.lexer.specs.Base.{pick, byte}
use Rattle.lexer.specs.Classes.{symbol, is_open, is_other, is_part}
use Rattle.lexer.specs.declared.Fault.{Fault}
use Rattle.lexer.specs.Refusals.{fault}
use Rattle.lexer.specs.declared.Step.{Step}
use Rattle.lexer.specs.declared.Symbol.{Symbol}
use Rattle.lexer.specs.declared.refusal.Refusal.{Refusal}

-- The symbol of the first of these bytes.
unfoldable pub first_symbol : List ℕ → Symbol
first_symbol [] = Symbol.Blank
first_symbol (b ∷ r) = symbol b r

-- The symbol of a byte of a text.
unfoldable pub symbol_at : List ℕ → ℕ → Symbol
symbol_at text i = first_symbol (drop i text)

-- Behind the bracket that closes a comment, in which so many more are open: or the refusal of one that does not end, at its opening mark. `i` is
-- where the rest stands.
unfoldable pub comment_end : ℕ → ℕ → ℕ → List ℕ → Result ℕ (Fault ℕ)
comment_end mark d i [] = Err (fault Refusal.OpenComment mark)
comment_end mark zero i (b ∷ r) =
    let deeper = comment_end mark 1 (suc i) r in
    let same = comment_end mark 0 (suc i) r in
    pick (eqb b (byte "[")) deeper (pick (eqb b (byte "]")) (Ok (suc i)) same)
comment_end mark (suc d) i (b ∷ r) =
    let deeper = comment_end mark (suc (suc d)) (suc i) r in
    let same = comment_end mark (suc d) (suc i) r in
    let outer = comment_end mark d (suc i) r in
    pick (eqb b (byte "[")) deeper (pick (eqb b (byte "]")) outer same)

-- Behind single-quoted text, or the refusal; `closing` says that a quote was passed just now.
unfoldable pub quote_end : ℕ → Bool → ℕ → List ℕ → Result ℕ (Fault ℕ)
quote_end mark false i [] = Err (fault Refusal.OpenQuote mark)
quote_end mark true i [] = Ok i
quote_end mark false i (b ∷ r) =
    let closing = quote_end mark true (suc i) r in
    let same = quote_end mark false (suc i) r in
    pick (eqb b (byte "'")) closing same
quote_end mark true i (b ∷ r) = let doubled = quote_end mark false (suc i) r in pick (eqb b (byte "'")) doubled (Ok i)

-- Behind double-quoted text, or the refusal.
unfoldable pub string_end : ℕ → ℕ → List ℕ → Result ℕ (Fault ℕ)
string_end mark i [] = Err (fault Refusal.OpenQuote mark)
string_end mark i (b ∷ r) = let same = string_end mark (suc i) r in pick (eqb b (byte "\"")) (Ok (suc i)) same

-- Does a byte with this symbol go on with a word?
unfoldable pub goes_on : Symbol → Bool
goes_on s = is_other s || is_part s

-- Where a word ends, comments inside it passed over; or the refusal of one that does not end, at its opening mark. Inside a comment the first number is its
-- depth, one more than how many are open around it, and the second its opening mark.
unfoldable pub word_end : ℕ → ℕ → ℕ → List ℕ → Result ℕ (Fault ℕ)
word_end zero mark i [] = Ok i
word_end (suc d) mark i [] = Err (fault Refusal.OpenComment mark)
word_end zero mark i (b ∷ r) =
    let s = symbol b r in
    let comment = word_end 1 i (suc i) r in
    let more = word_end 0 mark (suc i) r in
    pick (is_open s) comment (pick (goes_on s) more (Ok i))
word_end (suc d) mark i (b ∷ r) =
    let deeper = word_end (suc (suc d)) mark (suc i) r in
    let same = word_end (suc d) mark (suc i) r in
    let outer = word_end d mark (suc i) r in
    pick (eqb b (byte "[")) deeper (pick (eqb b (byte "]")) outer same)

-- What stands at a byte between two tokens, by where it ends: a comment is passed over,
unfoldable pub skipped : Result ℕ (Fault ℕ) → Result Step (Fault ℕ)
skipped (Ok j) = Ok (Step.Skip j)
skipped (Err f) = Err f

-- and a quoted text is a token, and so is a word, in which a comment may stay open.
unfoldable pub taken : Result ℕ (Fault ℕ) → Result Step (Fault ℕ)
taken (Ok j) = Ok (Step.Token j)
taken (Err f) = Err f

-- What stands at the byte `i`, which has this symbol, before the rest.
unfoldable pub step_of : Symbol → ℕ → List ℕ → Result Step (Fault ℕ)
step_of Symbol.Newline i r = Ok (Step.Token (suc i))
step_of Symbol.Return i r = Ok (Step.Skip (suc i))
step_of Symbol.Blank i r = Ok (Step.Skip (suc i))
step_of Symbol.Single i r = taken (quote_end i false (suc i) r)
step_of Symbol.Double i r = taken (string_end i (suc i) r)
step_of Symbol.Open i r = skipped (comment_end i 0 (suc i) r)
step_of Symbol.Close i r = Ok (Step.Token (suc i))
step_of Symbol.Punctuation i r = Ok (Step.Token (suc i))
step_of Symbol.Other i r = taken (word_end 0 0 (suc i) r)
step_of Symbol.Part i r = Ok (Step.Skip (suc i))

-- What stands at the front of the rest, between two tokens. `i` is where the rest stands.
unfoldable pub token_step : ℕ → List ℕ → Result Step (Fault ℕ)
token_step i [] = Ok (Step.Skip i)
token_step i (b ∷ r) = step_of (symbol b r) i r
