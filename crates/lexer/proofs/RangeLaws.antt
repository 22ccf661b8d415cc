-- The words of a text by what work memory holds, index by index: where it holds the starts of the text's tokens they are the numbered tokens. What
-- a word is taken for does not depend on its index, and words in front of a place depend on what stands in front of it alone. Assumes nothing.
use Prim.Native.Nat.{ℕ, zero, suc, ◌+◌, ◌-◌, ◌≤◌, ◌<◌}
use Rattle.lexer.proofs.Basics.{by-test}
use Rattle.lexer.proofs.StoredLaws.{stored-token, stored-count}
use Rattle.lexer.specs.Lexing.{word_at}
use Rattle.lexer.specs.Stored.{Stored, word_of, words_of, range}
use Rattle.lexer.specs.Tokens.{tokens, left_open}
use Rattle.lexer.specs.Words.{numbered, is, punct, label, number}
use borrow.Author.Tests.{ltb-true, ltb-false}
use lib.Dec.{ltb}
use lib.ListN.{length, take, drop, get_or, drop_of_length-le}
use lib.Seq.{get_or-take, take-take}
use mathlib.Core.List.{List, [], ◌∷◌}
use mathlib.Core.Option.{none}
use mathlib.Core.Path.{◌≡◌, refl, sym, ap, ◌∙◌}
use native.Mathlib.Numerals.{add-one}
use native.Mathlib.Omega.{arith}

module _ (text work : List ℕ) where
  -- A range from below its end: its first word, and the range behind it; from its end on it is empty.
  pub range-next : (i end : ℕ) → i < end → range text work i end ≡ word_of text work i ∷ range text work (i + 1) end
  unfolding range words_of
  range-next i end h =
      let count : end - i ≡ suc (end - (i + 1)) = omega arith in
      rw (count, add-one i)

  pub range-end : (i end : ℕ) → end ≤ i → range text work i end ≡ []
  unfolding range words_of
  range-end i end h = let none : end - i ≡ 0 = omega arith in rw none

  -- The words up to the count of tokens are the numbered tokens.
  module _ (closed : left_open (tokens text) ≡ none) (n : ℕ) (k : Stored text work n) where
    words-stored : (m i : ℕ) → i + m ≡ n → words_of text work i m ≡ numbered i (drop i (tokens text))
    unfolding words_of word_of numbered
    words-stored zero i e =
        let all : length (tokens text) ≤ i = omega (arith, stored-count text closed, k.count) in
        rw (drop_of_length-le (tokens text) all)
    words-stored (suc m) i e =
        let more = words-stored m (suc i) (omega arith) in
        rw (stored-token text work n i closed k (omega arith), add-one i, more)

    pub range-stored : (i : ℕ) → i ≤ n → range text work i n ≡ numbered i (drop i (tokens text))
    unfolding range
    range-stored i h = words-stored (n - i) i (omega arith)

  -- What a word is taken for
  module _ (i : ℕ) where
    pub is-of : (key : List ℕ) → is key (word_at text (get_or work i 0)) ≡ is key (word_of text work i)
    unfolding is word_at word_of
    is-of key = refl

    pub punct-of : (b : ℕ) → punct b (word_at text (get_or work i 0)) ≡ punct b (word_of text work i)
    unfolding punct word_at word_of
    punct-of b = refl

    pub label_of : label (word_at text (get_or work i 0)) ≡ label (word_of text work i)
    unfolding label word_at word_of
    label_of = refl

    pub number_of : number (word_at text (get_or work i 0)) ≡ number (word_of text work i)
    unfolding number word_at word_of
    number_of = refl

-- The words in front of a place are the same where work memory was kept up to it.
module _ (text work before : List ℕ) (at : ℕ) (kept : take at work ≡ take at before) where
  pub start-kept : (i : ℕ) → i < at → get_or work i 0 ≡ get_or before i 0
  start-kept i h = sym (get_or-take at work i 0 h) ∙ ap (λ l. get_or l i 0) kept ∙ get_or-take at before i 0 h

  pub word_kept : (i : ℕ) → i < at → word_of text work i ≡ word_of text before i
  unfolding word_of
  word_kept i h = rw (start-kept i h)

  words-kept : (n i : ℕ) → i + n ≤ at → words_of text work i n ≡ words_of text before i n
  unfolding words_of
  words-kept zero i h = refl
  words-kept (suc n) i h = rw (word_kept i (omega arith), words-kept n (suc i) (omega arith))

  pub range-kept : (i end : ℕ) → end ≤ at → range text work i end ≡ range text before i end
  unfolding range words_of
  range-kept i end h =
      by-test (ltb i end) (λ t. let l = ltb-true i end t in words-kept (end - i) i (omega arith))
      (λ f. let l = ltb-false i end f in let none : end - i ≡ 0 = omega arith in rw none)

-- They are told by what stands in front of it alone.
module _ (text work : List ℕ) (at : ℕ) where
  front : take at (take at work) ≡ take at work
  front = take-take at at work (omega arith)

  pub word-front : (i : ℕ) → i < at → word_of text (take at work) i ≡ word_of text work i
  word-front = word_kept text (take at work) work at front

  pub range_front : (from to : ℕ) → to ≤ at → range text (take at work) from to ≡ range text work from to
  range_front = range-kept text (take at work) work at front
