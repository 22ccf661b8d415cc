-- What work memory holds after lexing, where each token begins, and what the walk that stores it comes to; and the words of a text by what work
-- memory holds.
use Rattle.std.specs.Prelude.{ℕ, zero, suc, ◌-◌, length, take, get_or, List, [], ◌∷◌, ◌≡◌, Ok, Err, Result}
use Rattle.std.proofs.Math.Option.{Option, none, some}
use Rattle.lexer.specs.Lexing.{token_at}
use Rattle.lexer.specs.Places.{starts, opened}
use Rattle.lexer.specs.Tokens.{tokens, left_open}
use Rattle.lexer.specs.Words.{Numbered}
use Rattle.lexer.specs.declared.refusal.Refusal.{Refusal}
use Rattle.lexer.specs.declared.Fault.{Fault}
use Rattle.lexer.specs.Refusals.{fault}

-- Work memory begins with the starts of a text's tokens, so many.
pub record Stored (text work : List ℕ) (n : ℕ) : Type 0 where
  pub count : n ≡ length (starts text)
  pub held : take n work ≡ starts text

-- The count of a text's tokens; or this refusal, at the mark that opens what stays open.
unfoldable pub walk_of : List ℕ → Option Refusal → Result ℕ (Fault ℕ)
walk_of text none = Ok (length (starts text))
walk_of text (some n) = Err (fault n (opened text))

-- What a walk over a text to its end comes to.
unfoldable pub walked : List ℕ → Result ℕ (Fault ℕ)
walked text = walk_of text (left_open (tokens text))

-- The word of an index, by work memory alone, whatever it holds: the token that begins at the number there, or at 0 past its end.
unfoldable pub word_of : List ℕ → List ℕ → ℕ → Numbered
word_of text work i = record { index = i; token = token_at text (get_or work i 0) }

-- The words of so many indices, from the first one on.
unfoldable pub words_of : List ℕ → List ℕ → ℕ → ℕ → List Numbered
words_of text work i zero = []
words_of text work i (suc n) = let more = words_of text work (suc i) n in word_of text work i ∷ more

-- The words from an index up to another.
unfoldable pub range : List ℕ → List ℕ → ℕ → ℕ → List Numbered
range text work i end = words_of text work i (end - i)
