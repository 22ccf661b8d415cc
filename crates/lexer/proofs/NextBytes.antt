-- A token's text by its cursors: at the front all of it is left; the next byte is the first of what is left, and the cursor behind it stands further
-- on; where there is no next byte, nothing is left. Assumes nothing.
use Rattle.std.specs.Prelude.{Option, Some, None, is_some}
use Prim.Native.Nat.{ℕ, ◌+◌, ◌≤◌, ◌<◌}
use Rattle.lexer.proofs.Basics.{by-test}
use Rattle.lexer.proofs.ListLaws.{drop-next}
use Rattle.lexer.proofs.QuotedBytes.{quoted-yields, string-yields, mark-yields}
use Rattle.lexer.proofs.TokenParts.{here, text-symbol, front-symbol, text-past, front-past}
use Rattle.lexer.proofs.WordBytes.{word-yields}
use Rattle.lexer.proofs.Yielded.{Yields, yields-end}
use Rattle.lexer.specs.Base.{pick, is_empty}
use Rattle.lexer.specs.Bytes.{front_at, front_of, next_item, item_of, left, rest_of, first}
use Rattle.lexer.specs.Classes.{symbol, rank, is_newline, is_single, is_double, is_open, is_other, is_part}
use Rattle.lexer.specs.Lexing.{token_at}
use Rattle.lexer.specs.Scanning.{symbol_at}
use Rattle.lexer.specs.Tokens.{text_of, tail, next, after_word, after_between, text_step}
use Rattle.lexer.specs.declared.Cursor.{Cursor}
use Rattle.lexer.specs.declared.Mode.{Mode}
use Rattle.lexer.specs.declared.Symbol.{Symbol}
use borrow.Author.Tests.{ltb-true, ltb-false}
use lib.Dec.{ltb}
use lib.ListN.{length, get_or, drop, drop_of_length-le}
use mathlib.Core.Bool.{Bool, true, false, not, false≢true}
use mathlib.Core.List.{List}
use mathlib.Core.Path.{◌≡◌, refl, sym}

-- At the front
front-text : (text : List ℕ) (i : ℕ) → i < length text → (s : Symbol) → s ≡ symbol (get_or text i 0) (drop (i + 1) text)
    → left text (front_of s i) ≡ text_of s (get_or text i 0) (drop (i + 1) text)
unfolding front_of left rest_of first text_of is_newline is_single is_double is_open is_other is_part rank pick tail next after_word after_between text_step
front-text text i h Symbol.Newline e = refl
front-text text i h Symbol.Return e = rw (drop-next text i h)
front-text text i h Symbol.Blank e = rw (drop-next text i h)
front-text text i h Symbol.Single e = refl
front-text text i h Symbol.Double e = refl
front-text text i h Symbol.Open e = rw (drop-next text i h)
front-text text i h Symbol.Close e = rw (drop-next text i h)
front-text text i h Symbol.Punctuation e = rw (drop-next text i h)
front-text text i h Symbol.Other e = rw (drop-next text i h, ← e)
front-text text i h Symbol.Part e = rw (drop-next text i h)

front-within : (text : List ℕ) (i : ℕ) → i < length text → left text (front_at text i) ≡ (token_at text i).text
front-within text i h = go (symbol_at text i) refl
  where
    go : (s : Symbol) → s ≡ symbol_at text i → left text (front_at text i) ≡ (token_at text i).text
    go s is = rw (front-symbol text i h s is, text-symbol text i h s is) (front-text text i h s (here text i h s is))

front-beyond : (text : List ℕ) (i : ℕ) → length text ≤ i → left text (front_at text i) ≡ (token_at text i).text
unfolding left rest_of first
front-beyond text i h = rw (← front-past text i h, text-past text i h, drop_of_length-le text h)

pub front-left : (text : List ℕ) (i : ℕ) (c : Cursor) → c ≡ front_at text i → left text c ≡ (token_at text i).text
front-left text i c e = rw e (by-test (ltb i (length text)) (λ t. front-within text i (ltb-true i (length text) t)) (λ f. front-beyond text i (ltb-false i (length text) f)))

-- The next byte
pub yielded : (text : List ℕ) (c : Cursor) (r : Option (ℕ × Cursor)) → r ≡ next_item text c → Yields text c.at (left text c) r
unfolding next_item item_of left rest_of
yielded text c r e = rw e (go c.mode c.at)
  where
    go : (m : Mode) (i : ℕ) → Yields text i (rest_of m (drop i text)) (item_of m i (drop i text))
    go Mode.Between i = mark-yields text i
    go Mode.Word i = word-yields text 0 i (drop i text) refl
    go Mode.Quoted i = quoted-yields text i
    go Mode.Closing i = yields-end refl
    go Mode.String i = string-yields text i
    go (Mode.Comment d) i = yields-end refl
    go (Mode.WordComment d) i = yields-end refl

-- Where there is no next byte, nothing is left.
pub ended-told : (text : List ℕ) (c : Cursor) (r : Option (ℕ × Cursor)) (n : Bool) → r ≡ next_item text c → is_some r ≡ not n → n ≡ is_empty (left text c)
unfolding is_empty
ended-told text c (Some (b, d)) false e h = rw ((yielded text c (Some (b, d)) e).byte b d refl).here refl
ended-told text c (Some (b, d)) true e h = absurd (false≢true (sym h))
ended-told text c None false e h = absurd (false≢true h)
ended-told text c None true e h = rw ((yielded text c None e).end refl) refl
