-- A word byte by byte, as it stands in a text, with the comments in it passed over whole. Assumes nothing.
use Rattle.std.specs.Prelude.{Some, None, Ok, Err, Result}
use Rattle.std.proofs.lemmas.Option.{none-some}
use Rattle.std.specs.Result.{result_ok}
use Prim.Native.Nat.{ℕ, zero, suc, ◌+◌, ◌≤◌, ◌<◌}
use Rattle.lexer.proofs.Basics.{chosen-alike}
use Rattle.lexer.proofs.ListLaws.{drop-tail}
use Rattle.lexer.proofs.ScanLaws.{open-byte, close-byte}
use Rattle.lexer.proofs.SymbolTags.{Continues, Stops}
use Rattle.lexer.proofs.WordEnds.{behind, comment-passed}
use Rattle.lexer.proofs.Yielded.{Yields, yields-byte, yields-end, yields-before}
use Rattle.lexer.specs.Base.{pick}
use Rattle.lexer.specs.Bytes.{cursor, left, rest_of, word_item}
use Rattle.lexer.specs.Classes.{symbol, rank, is_single, is_double, is_open, is_other, is_part}
use Rattle.lexer.specs.Scanning.{comment_end, goes_on, symbol_at, first_symbol}
use Rattle.lexer.specs.Tokens.{tail, next, after_word, after_between, after_comment, up, text_step}
use Rattle.lexer.specs.declared.Fault.{Fault}
use Rattle.lexer.specs.declared.Mode.{Mode}
use Rattle.lexer.specs.declared.Symbol.{Symbol}
use lib.Dec.{eqb}
use lib.ListN.{length, get_or, drop, drop_of_length-le, length-drop}
use lib.Seq.{drop-cons}
use mathlib.Core.Bool.{Bool, true, false}
use mathlib.Core.List.{List, [], ◌∷◌}
use mathlib.Core.Path.{◌≡◌, refl, sym, ap, ◌∙◌}
use native.Mathlib.Numerals.{add-one}
use native.Mathlib.Omega.{arith}

-- What is left of a word in which so many comments are open.
abbrev word_left : ℕ → List ℕ → List ℕ
word_left zero r = tail Mode.Word r
word_left (suc d) r = tail (Mode.WordComment d) r

-- A byte of the word, and one of a comment in it.
left-byte : (s : Symbol) (b : ℕ) (r : List ℕ) → text_step Mode.Word s b (tail (next Mode.Word s) r) ≡ pick (is_open s) (word_left 1 r) (pick (goes_on s) (b ∷ word_left 0 r) [])
unfolding text_step next after_word after_between is_single is_double is_open is_other is_part rank pick goes_on
left-byte Symbol.Newline b r = refl
left-byte Symbol.Return b r = refl
left-byte Symbol.Blank b r = refl
left-byte Symbol.Single b r = refl
left-byte Symbol.Double b r = refl
left-byte Symbol.Open b r = refl
left-byte Symbol.Close b r = refl
left-byte Symbol.Punctuation b r = refl
left-byte Symbol.Other b r = refl
left-byte Symbol.Part b r = refl

left-outer : (d : ℕ) (r : List ℕ) → tail (up Mode.Word Mode.WordComment d) r ≡ word_left d r
unfolding up
left-outer zero r = refl
left-outer (suc d) r = refl

left-comment : (d b : ℕ) (r : List ℕ) → word_left (suc d) (b ∷ r) ≡ pick (eqb b 91) (word_left (suc (suc d)) r) (pick (eqb b 93) (word_left d r) (word_left (suc d) r))
unfolding tail text_step next after_comment pick
left-comment d b r = rw (open-byte b r, close-byte b r) (go (eqb b 91) (eqb b 93))
  where
    go : (o e : Bool) → tail (pick o (Mode.WordComment (suc d)) (pick e (up Mode.Word Mode.WordComment d) (Mode.WordComment d))) r
        ≡ pick o (word_left (suc (suc d)) r) (pick e (word_left d r) (word_left (suc d) r))
    go true e = refl
    go false true = left-outer d r
    go false false = refl

-- The next byte of a word is the first of what is left.
pub word-yields : (text : List ℕ) (d i : ℕ) (r : List ℕ) → r ≡ drop i text → Yields text i (word_left d r) (word_item d i r)
unfolding word_item tail left rest_of
word-yields text zero i [] e = yields-end refl
word-yields text (suc d) i [] e = yields-end refl
word-yields text zero i (b ∷ r) e =
    let t = drop-tail text i b r e in
    let comment = yields-before _ (word-yields text 1 (suc i) r t) in
    rw (left-byte (symbol b r) b r) (chosen-alike (Yields text i) (is_open (symbol b r)) comment (chosen-alike (Yields text i) (goes_on (symbol b r)) (this t) (yields-end refl)))
  where
    this : r ≡ drop (suc i) text → Yields text i (b ∷ tail Mode.Word r) (Some (b, (cursor Mode.Word (suc i))))
    this t = yields-byte (record { here = ap (λ l. b ∷ tail Mode.Word l) t; ahead = omega arith; within = omega (arith, ap length e, length-drop i text) })
word-yields text (suc d) i (b ∷ r) e =
    let t = drop-tail text i b r e in
    let deeper = yields-before _ (word-yields text (suc (suc d)) (suc i) r t) in
    let outer = yields-before _ (word-yields text d (suc i) r t) in
    let same = yields-before _ (word-yields text (suc d) (suc i) r t) in
    rw (left-comment d b r) (chosen-alike (Yields text i) (eqb b 91) deeper (chosen-alike (Yields text i) (eqb b 93) outer same))

-- The next byte from a place on, as the loop takes it.
module _ (text : List ℕ) (i : ℕ) (h : i < length text) where
  item-byte : word_item 0 i (drop i text) ≡ pick (is_open (symbol_at text i)) (word_item 1 (i + 1) (drop (i + 1) text)) (pick (goes_on (symbol_at text i)) (Some ((get_or text i 0), (cursor Mode.Word (i + 1)))) None)
  unfolding word_item symbol_at first_symbol
  item-byte = rw (add-one i, drop-cons text i 0)

  module _ (s : Symbol) (is : s ≡ symbol_at text i) where
    pub item-goes-on : Continues s → word_item 0 i (drop i text) ≡ Some ((get_or text i 0), (cursor Mode.Word (i + 1)))
    unfolding pick
    item-goes-on p = item-byte ∙ rw (← is, p.closed, p.on)

    pub item-over : Stops s → word_item 0 i (drop i text) ≡ None
    unfolding pick
    item-over p = item-byte ∙ rw (← is, p.closed, p.over)

    -- A comment in a word, by where it has ended.
    module _ (o : s ≡ Symbol.Open) (e : Result ℕ (Fault ℕ)) (ends : e ≡ comment_end i 0 (i + 1) (drop (i + 1) text)) where
      passed : word_item 0 i (drop i text) ≡ behind text word_item (λ f. None) e
      unfolding word_item pick is_open rank
      passed = item-byte ∙ rw (← is, o, ends) (comment-passed text word_item (λ f. None) i (λ d i. refl) (λ d i b r. refl) 0 (i + 1) (drop (i + 1) text) refl)

      pub item-skips : (j : ℕ) → e ≡ Ok j → word_item 0 i (drop i text) ≡ word_item 0 j (drop j text)
      item-skips j t = passed ∙ ap (behind text word_item (λ f. None)) t

      pub item-open : (f : Fault ℕ) → e ≡ Err f → word_item 0 i (drop i text) ≡ None
      item-open f t = passed ∙ ap (behind text word_item (λ f. None)) t

pub item-last : (text : List ℕ) (i : ℕ) → length text ≤ i → word_item 0 i (drop i text) ≡ None
unfolding word_item
item-last text i h = rw (drop_of_length-le text h)

-- What the answer without its error was.
pub ok-found : {E : Type 0} (r : Result ℕ E) (j : ℕ) → Some j ≡ result_ok r → r ≡ Ok j
ok-found (Ok i) j e = let same : i ≡ j = cc in ap Ok same
ok-found (Err f) j e = absurd (none-some j (sym e))

pub err-found : {E : Type 0} (r : Result ℕ E) → None ≡ result_ok r → (f : E) × (r ≡ Err f)
err-found (Ok i) e = absurd (none-some i e)
err-found (Err f) e = (f, refl)
