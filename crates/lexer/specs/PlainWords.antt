-- Words that are told by their bytes at once: plain bytes, and behind them one that ends a word whatever comes next.
use Rattle.std.specs.Prelude.{ℕ, ◌+◌, ◌-◌, ◌≤◌, ◌<◌, eqb, ltb, length, get_or, take, drop, Bool, true, ◌&&◌, ◌||◌, List, ◌≡◌, Ok}
use Rattle.lexer.specs.Base.{pick, byte}
use Rattle.lexer.specs.ByteBlocks.{is_plain, plain_end}
use Rattle.lexer.specs.Lexing.{token_at}
use Rattle.lexer.specs.Scanning.{token_step}
use Rattle.lexer.specs.Tables.{tabulated}
use Rattle.lexer.specs.Tokens.{Token}
use Rattle.lexer.specs.declared.Kind.{Kind}
use Rattle.lexer.specs.declared.Step.{Step}

-- Is the byte one of those that most often are a token by themselves, whatever comes next: LF, a bracket of a set, `,`, `;` or `=`?
unfoldable pub is_alone : ℕ → Bool
is_alone b =
    let bracket = eqb b (byte "(") || eqb b (byte ")") || eqb b (byte "{") || eqb b (byte "}") in
    eqb b (byte "\n") || eqb b (byte ",") || eqb b (byte ";") || eqb b (byte "=") || bracket

-- Is it one of those that end most words: one of these, CR or a blank?
unfoldable pub is_ends : ℕ → Bool
is_ends b = eqb b (byte " ") || eqb b (byte "\r") || is_alone b

-- How a byte stands to a word: 1 goes on with it, 2 ends it, 3 ends it and is a token by itself, and at any other byte one must look at more.
unfoldable pub word_byte : ℕ → ℕ
word_byte b = pick (is_plain b) 1 (pick (is_alone b) 3 (pick (is_ends b) 2 0))

-- How each byte stands to a word.
abbrev pub word_bytes : List ℕ
word_bytes = tabulated word_byte 0 256

-- A word with this text.
abbrev pub word_token : List ℕ → Token
word_token text = record { kind = Kind.Word; text = text }

-- The bytes of a text from a place up to an end.
abbrev pub part : List ℕ → ℕ → ℕ → List ℕ
part text from end = take (end - from) (drop from text)

-- Where the word at a place ends, if it is of plain bytes alone and the byte behind them is one of those that end most words; else the place itself.
unfoldable pub word_stop : List ℕ → ℕ → ℕ
word_stop text start =
    let end = plain_end start (drop start text) in
    pick (ltb end (length text) && is_ends (get_or text end 0)) end start

-- Where the token at a place ends, if it is a byte that is one by itself or such a word; else the place itself.
unfoldable pub told_end : List ℕ → ℕ → ℕ
told_end text i = pick (is_alone (get_or text i 0)) (i + 1) (word_stop text i)

-- The token at a place is a word, the bytes up to an end, all of them plain; a step over it ends there.
pub record PlainWord (text : List ℕ) (start end : ℕ) : Type 0 where
  pub within : end ≤ length text
  pub told : token_at text start ≡ word_token (part text start end)
  pub each : (k : ℕ) → k < end - start → is_plain (get_or text (start + k) 0) ≡ true
  pub stepped : token_step start (drop start text) ≡ Ok (Step.Token end)
