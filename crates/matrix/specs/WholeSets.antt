-- Sets that are told by their bytes at once: their states are one word of letters and digits, rising and below 10. Words that are told so stand in the
-- lexer's PlainWords.antt.
use Rattle.std.specs.Prelude.{ℕ, ◌+◌, ◌<◌, eqb, leb, ltb, length, get_or, Bool, true, ◌&&◌, ◌||◌, List, [], ◌∷◌, ◌≡◌}
use Rattle.block.specs.Chunk.{closer}
use Rattle.block.specs.declared.kinds.Bracket.{Bracket}
use Rattle.lexer.specs.Base.{pick, byte}
use Rattle.lexer.specs.PlainWords.{part, word_token}
use Rattle.lexer.specs.Stored.{word_of}
use Rattle.lexer.specs.declared.Kind.{Kind}

-- Is the byte a letter or a digit?
unfoldable pub is_simple : ℕ → Bool
is_simple b = (leb (byte "0") b && leb b (byte "9")) || (leb (byte "A") b && leb b (byte "Z")) || (leb (byte "a") b && leb b (byte "z"))

-- Are these bytes letters or digits whose codes are states below 10, rising, the first of them no less than a number?
unfoldable pub rising : List ℕ → ℕ → List ℕ → Bool
rising codes least [] = true
rising codes least (b ∷ r) =
    let c = get_or codes b 0 in
    let more = rising codes (c + 1) r in
    leb least c && ltb c 10 && is_simple b && more

-- The mark that opens a set, and the kind of a set by it.
unfoldable pub opener : Bracket → ℕ
opener Bracket.Brace = byte "{"
opener Bracket.Parenthesis = byte "("

unfoldable pub bracket_of : ℕ → Bracket
bracket_of b = pick (eqb b (byte "{")) Bracket.Brace Bracket.Parenthesis

-- Are two bytes the mark that opens a set and the one that closes it?
unfoldable pub is_marks : ℕ → ℕ → Bool
is_marks mark close = (eqb mark (byte "{") && eqb close (byte "}")) || (eqb mark (byte "(") && eqb close (byte ")"))

-- Are the bytes of a text from a place up to and with an end a whole set: its mark, at least one state, all of them rising, and the mark that closes it?
unfoldable pub is_set : (codes text : List ℕ) (start end : ℕ) → Bool
is_set codes text start end =
    let states = rising codes 0 (part text (start + 1) end) in
    ltb (start + 1) end && ltb end (length text) && is_marks (get_or text start 0) (get_or text end 0) && states

-- Where the set closes that begins with the word of an index, if this word and the two behind it, all below an end, begin where the mark, the states and
-- the closing mark of such a set do; else 0.
unfoldable pub set_closes : (codes text work : List ℕ) (i to : ℕ) → ℕ
set_closes codes text work i to =
    let start = get_or work i 0 in
    let end = get_or work (i + 2) 0 in
    pick (ltb (i + 2) to && eqb (get_or work (i + 1) 0) (start + 1) && is_set codes text start end) end 0

-- From a place on a text has the bytes of a whole set: its mark, at least one state, and at the end the mark that closes it.
pub record SetBytes (codes text : List ℕ) (start end : ℕ) : Type 0 where
  pub opens : get_or text start 0 ≡ opener (bracket_of (get_or text start 0))
  pub some : start + 1 < end
  pub within : end < length text
  pub rises : rising codes 0 (part text (start + 1) end) ≡ true
  pub closes : get_or text end 0 ≡ closer (bracket_of (get_or text start 0))

-- The words of an index and the two behind it are a set of this kind whose states are these bytes.
pub record WholeSet (codes text work : List ℕ) (i to : ℕ) (k : Bracket) (states : List ℕ) : Type 0 where
  pub room : i + 2 < to
  pub opened : (word_of text work i).token.kind ≡ Kind.Punctuation (opener k)
  pub word : (word_of text work (i + 1)).token ≡ word_token states
  pub closed : (word_of text work (i + 2)).token.kind ≡ Kind.Punctuation (closer k)
  pub some : 0 < length states
  pub rises : rising codes 0 states ≡ true

-- What a place that is not 0 says: there the mark stands that closes such a set, which begins with the word of an index.
pub record SetClosed (codes text work : List ℕ) (i to end : ℕ) : Type 0 where
  pub bytes : SetBytes codes text (get_or work i 0) end
  pub whole : WholeSet codes text work i to (bracket_of (get_or text (get_or work i 0) 0)) (part text (get_or work i 0 + 1) end)
