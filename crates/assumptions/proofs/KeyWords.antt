-- Keywords that are told by their bytes at once: letters alike a key's, and behind them a byte that ends a word. Assumes nothing.
use Prim.Native.Nat.{ℕ, zero, suc, ◌+◌, ◌-◌, ◌≤◌, ◌<◌}
use Rattle.assumptions.specs.ToldWords.{told_keyword, told_type}
use Rattle.block.specs.Typeset.{ordering}
use Rattle.block.specs.declared.model.CharacterOrdering.{CharacterOrdering}
use Rattle.std.specs.Char.{is_ascii_alphabetic}
use Rattle.std.proofs.Math.Bool.{or_comm}
use Rattle.lexer.proofs.Basics.{and-false, and_left, and_right, by-test, or-true}
use Rattle.lexer.proofs.ListLaws.{drop-next}
use Rattle.lexer.proofs.WordsTold.{PlainTo, plain-start, plain_turn, word-told}
use Rattle.lexer.specs.Base.{alike, bytes, given, lower, pick}
use Rattle.lexer.specs.ByteBlocks.{is_plain}
use Rattle.lexer.specs.Lexing.{word_at}
use Rattle.lexer.specs.PlainWords.{is_ends}
use Rattle.lexer.specs.Stored.{word_of}
use Rattle.lexer.specs.Words.{Numbered, is, is_word}
use borrow.Author.Tests.{eq-eqb, eqb-true, ltb-true, ltb-false}
use lib.Dec.{eqb, leb, ltb}
use lib.ListN.{length, get_or, take, drop, drop_of_length-le, length-drop}
use mathlib.Core.Bool.{Bool, true, false, ◌&&◌, ◌||◌, false≢true}
use mathlib.Core.List.{List, [], ◌∷◌}
use mathlib.Core.Option.{some}
use mathlib.Core.Path.{◌≡◌, refl, sym, ap, ◌∙◌}
use native.Mathlib.Omega.{arith}

letter-plain : (b : ℕ) → (leb 97 b && leb b 122) || (leb 65 b && leb b 90) ≡ true → is_plain b ≡ true
unfolding is_plain
letter-plain b h =
    by-test (leb 97 b && leb b 122)
    (λ t. rw (t, or-true) refl)
    (λ f. let t : leb 65 b && leb b 90 ≡ true = rw f at h in rw (t, or-true) refl)

-- So many bytes of a key, and as many of a text that are alike.
record Matching (text key : List ℕ) (start k : ℕ) : Type 0 where
  plain : PlainTo text start (start + k)
  within : k ≤ length key
  rest : (end : ℕ) → start + k ≤ end → alike key (take (end - start) (drop start text)) ≡ alike (drop k key) (take (end - (start + k)) (drop (start + k) text))

matching-start : (text key : List ℕ) (start : ℕ) → Matching text key start 0
matching-start text key start =
    let here : start + 0 ≡ start = omega arith in
    record { plain = rw here (plain-start text start); within = omega arith; rest = λ end h. rw here refl }

module _ (text key : List ℕ) (start k : ℕ) (s : Matching text key start k) (h : start + k < length text) where
  abbrev b : ℕ
  b = get_or text (start + k) 0

  module _ (more : k < length key) (letter : (leb 97 b && leb b 122) || (leb 65 b && leb b 90) ≡ true) (e : lower b ≡ lower (get_or key k 0)) where
    one : (end : ℕ) → start + (k + 1) ≤ end
        → alike (drop k key) (take (end - (start + k)) (drop (start + k) text)) ≡ alike (drop (k + 1) key) (take (end - (start + (k + 1))) (drop (start + (k + 1)) text))
    unfolding alike
    one end l =
        let left : end - (start + k) ≡ suc (end - (start + (k + 1))) = omega arith in
        let next : start + k + 1 ≡ start + (k + 1) = omega arith in
        rw (left, drop-next key k more, drop-next text (start + k) h, next, eq-eqb (lower (get_or key k 0)) (lower b) (sym e)) refl

    matching-turn : Matching text key start (k + 1)
    matching-turn =
        let next : start + k + 1 ≡ start + (k + 1) = omega arith in
        record {
          plain = rw next at (plain_turn text start (start + k) s.plain (letter-plain b letter));
          within = omega arith;
          rest = λ end l. s.rest end (omega arith) ∙ one end l;
        }

  matching-end : length key ≤ k → 0 < length key → is_ends b ≡ true → is key (word_at text start) ≡ true
  unfolding is word_at is_word alike
  matching-end over long e =
      let word = word-told text start (start + k) (omega arith) h s.plain.each e in
      let none : start + k - (start + k) ≡ 0 = omega arith in
      rw word.told (s.rest (start + k) (omega arith) ∙ rw (drop_of_length-le key over, none) refl)

-- What a keyword is told to be, byte by byte.
pub keyword-short : (k l : List ℕ) → length l ≤ length k → told_keyword k l ≡ false
unfolding told_keyword pick
keyword-short k [] h = refl
keyword-short [] (b ∷ r) h = absurd (omega arith)
keyword-short (a ∷ k) (b ∷ r) h =
    let letter = (leb 97 b && leb b 122) || (leb 65 b && leb b 90) in
    by-test (letter && eqb (lower b) (lower a))
    (λ t. rw t (keyword-short k r (omega arith)))
    (λ f. rw f refl)

module _ (text key : List ℕ) (at k : ℕ) (h : at < length text) where
  abbrev c : ℕ
  c = get_or text at 0

  pub keyword-end : length key ≤ k → told_keyword (drop k key) (drop at text) ≡ is_ends c
  unfolding told_keyword
  keyword-end over = rw (drop_of_length-le key over, drop-next text at h) refl

  abbrev letter : Bool
  letter = (leb 97 c && leb c 122) || (leb 65 c && leb c 90)

  -- `x` and `y` are the two bytes in lower case
  module _ (more : k < length key) (x y : ℕ) (ex : x ≡ lower c) (ey : y ≡ lower (get_or key k 0)) where
    -- `alpha` is what the library says of a letter
    module _ (alpha : Bool) (ea : is_ascii_alphabetic c ≡ alpha) where
      letter-is : letter ≡ alpha
      letter-is = or_comm (leb 97 c && leb c 122) (leb 65 c && leb c 90) ∙ ea

      pub keyword-on : alpha && eqb x y ≡ true → told_keyword (drop k key) (drop at text) ≡ told_keyword (drop (k + 1) key) (drop (at + 1) text)
      unfolding told_keyword pick
      keyword-on t = let goes : letter && eqb (lower c) (lower (get_or key k 0)) ≡ true = rw (letter-is, ← ex, ← ey) t in rw (drop-next key k more, drop-next text at h, goes) refl

      pub keyword-off : alpha && eqb x y ≡ false → told_keyword (drop k key) (drop at text) ≡ false
      unfolding told_keyword pick
      keyword-off f = let stops : letter && eqb (lower c) (lower (get_or key k 0)) ≡ false = rw (letter-is, ← ex, ← ey) f in rw (drop-next key k more, drop-next text at h, stops) refl

-- A word that is told to be a keyword is it.
module _ (text key : List ℕ) (start : ℕ) where
  keyword-from : (left k : ℕ) → k + left ≡ length key → start + k < length text → Matching text key start k → told_keyword (drop k key) (drop (start + k) text) ≡ true → 0 < length key → is key (word_at text start) ≡ true
  keyword-from zero k e h s t long = matching-end text key start k s h (omega arith) long (sym (keyword-end text key (start + k) k h (omega arith)) ∙ t)
  keyword-from (suc left) k e h s t long =
      let c = get_or text (start + k) 0 in
      let letter = (leb 97 c && leb c 122) || (leb 65 c && leb c 90) in
      let same = eqb (lower c) (lower (get_or key k 0)) in
      let there : start + k + 1 ≡ start + (k + 1) = omega arith in
      by-test (letter && same)
      (λ y.
      let more : told_keyword (drop (k + 1) key) (drop (start + (k + 1)) text) ≡ true = rw there at (sym (keyword-on text key (start + k) k h (omega arith) (lower c) (lower (get_or key k 0)) refl refl letter (sym (or_comm (leb 97 c && leb c 122) (leb 65 c && leb c 90))) y) ∙ t) in
      by-test (ltb (start + (k + 1)) (length text))
      (λ w.
      keyword-from left (k + 1) (omega arith) (ltb-true (start + (k + 1)) (length text) w) (matching-turn text key start k s h (omega arith) (and_left letter same y) (eqb-true (lower c) (lower (get_or key k 0)) (and_right letter same y))) more long)
      (λ w. let past = ltb-false (start + (k + 1)) (length text) w in absurd (false≢true (sym (keyword-over (k + 1) past) ∙ more))))
      (λ n. absurd (false≢true (sym (keyword-off text key (start + k) k h (omega arith) (lower c) (lower (get_or key k 0)) refl refl letter (sym (or_comm (leb 97 c && leb c 122) (leb 65 c && leb c 90))) n) ∙ t)))
    where
      keyword-over : (k : ℕ) → length text ≤ start + k → told_keyword (drop k key) (drop (start + k) text) ≡ false
      keyword-over k past = rw (drop_of_length-le text past) (keyword-short (drop k key) [] (omega arith))

  told-keyword : 0 < length key → told_keyword key (drop start text) ≡ true → is key (word_at text start) ≡ true
  told-keyword long t =
      let here : start + 0 ≡ start = omega arith in
      by-test (ltb (start + 0) (length text))
      (λ w. keyword-from (length key) 0 (omega arith) (ltb-true (start + 0) (length text) w) (matching-start text key start) (rw here t) long)
      (λ w.
      let past = ltb-false (start + 0) (length text) w in
      let none = keyword-short key (drop start text) (omega (arith, length-drop start text, past)) in
      absurd (false≢true (sym none ∙ t)))

-- The type of the word at a place is that of the word of an index that begins there.
pub type-there : (text work : List ℕ) (i start : ℕ) → start ≡ get_or work i 0 → ordering (word_at text start) ≡ ordering (word_of text work i)
unfolding ordering is word_at word_of
type-there text work i start e = rw e refl

-- What is UNORD is not ORD.
unord-other : (l : List ℕ) → alike (bytes "UNORD") l ≡ true → alike (bytes "ORD") l ≡ false
unfolding alike bytes lower pick
unord-other [] h = absurd (false≢true h)
unord-other (b ∷ r) h = let e = eqb-true 117 (pick (leb 65 b && leb b 90) (b + 32) b) (and_left (eqb 117 (pick (leb 65 b && leb b 90) (b + 32) b)) (alike (bytes "NORD") r) h) in rw (← e) refl

not-ord : (w : Numbered) → is (bytes "UNORD") w ≡ true → is (bytes "ORD") w ≡ false
unfolding is
not-ord w h = rw (unord-other w.token.text (and_right (is_word w.token.kind) (alike (bytes "UNORD") w.token.text) h)) (and-false (is_word w.token.kind))

-- A type that is told of a word is its type.
pub told-type : (text : List ℕ) (start : ℕ) (o : CharacterOrdering) → told_type (drop start text) ≡ some o → ordering (word_at text start) ≡ some o
unfolding told_type ordering pick bytes given
told-type text start o e =
    let w = word_at text start in
    let l = drop start text in
    by-test (told_keyword (bytes "ORD") l)
    (λ t. rw (told-keyword text (bytes "ORD") start (omega arith) t) (rw t at e))
    (λ f.
    by-test (told_keyword (bytes "UNORD") l)
    (λ t. let unord = told-keyword text (bytes "UNORD") start (omega arith) t in rw (not-ord w unord, unord) (rw (f, t) at e))
    (λ g. absurd (false≢true (ap given (rw (f, g) at e)))))
