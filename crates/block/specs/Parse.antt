-- A text's reading, or its refusal with number and place.
use Rattle.std.specs.Prelude.{ℕ, length, get_or, List, [], ◌∷◌}
use Rattle.block.specs.Blocks.{at_start, step, finish}
use Rattle.block.specs.Commands.{commands, newline}
use Rattle.block.specs.Outcome.{Outcome, done, refused, then, fold}
use Rattle.block.specs.Reading.{Reading}
use Rattle.lexer.specs.Base.{pick, bytes}
use Rattle.lexer.specs.Places.{place, nowhere, starts, opened}
use Rattle.lexer.specs.Tokens.{Token, tokens, left_open}
use Rattle.lexer.specs.Utf8.{utf8}
use Rattle.lexer.specs.Words.{Numbered, numbered, is}
use Rattle.lexer.specs.declared.Place.{Place}
use Rattle.lexer.specs.declared.refusal.Refusal.{Refusal}
use Rattle.std.proofs.Math.Option.{Option, none, some}

-- The commands behind the header #NEXUS, the word with this index.
unfoldable pub parse_behind : ℕ → List Numbered → Outcome Reading
parse_behind header r = then (fold step at_start (commands r)) (finish header)

-- The first token that is no newline must be the word #NEXUS. Where there is none, the refusal names no token of the text: the index is
-- the count of the tokens.
unfoldable pub parse_from : ℕ → List Numbered → Outcome Reading
parse_from count [] = refused Refusal.NoNexus count
parse_from count (w ∷ r) =
    let later = parse_from count r in
    let behind = parse_behind w.index r in
    pick (newline w) later (pick (is (bytes "#NEXUS") w) behind (refused Refusal.NoNexus w.index))

-- What a sequence of tokens means.
unfoldable pub parse : List Token → Outcome Reading
parse ts = parse_from (length ts) (numbered 0 ts)

-- What a text means: its reading, or its refusal and the place of it.
pub data Read : Type 0 where
  reading : Reading → Read
  fault : Refusal → Place → Read

-- The place of a token by its index; a text without the token asked for is refused at its first byte.
unfoldable pub place_of : List ℕ → ℕ → Place
place_of text i = place text (get_or (starts text) i 0)

unfoldable pub placed : List ℕ → Outcome Reading → Read
placed text (done r) = reading r
placed text (refused n i) = fault n (place_of text i)

unfoldable pub read_tokens : List ℕ → List Token → Option Refusal → Read
read_tokens text ts none = placed text (parse ts)
read_tokens text ts (some n) = fault n (place text (opened text))

-- Not UTF-8 (3) comes first, then an open quote or comment (4, 5), then the first fault among the tokens.
unfoldable pub read : List ℕ → Read
read text =
    let ts = tokens text in
    let lexed = read_tokens text ts (left_open ts) in
    pick (utf8 text) lexed (fault Refusal.NotUtf8 nowhere)
