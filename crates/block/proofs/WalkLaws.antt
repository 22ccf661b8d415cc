-- Walks over the words of a command, token by token: newlines are passed over, and what is folded from here on is what is folded from the start.
-- Assumes nothing.
use Prim.Native.Nat.{ℕ, zero, suc, ◌+◌, ◌-◌, ◌≤◌, ◌<◌}
use Rattle.block.specs.Commands.{newline, words}
use Rattle.block.specs.Outcome.{Outcome, done, refused, then, fold}
use Rattle.lexer.proofs.Basics.{by-test}
use Rattle.lexer.proofs.RangeLaws.{range-next, range-end}
use Rattle.lexer.specs.Base.{pick}
use Rattle.lexer.specs.Stored.{word_of, words_of, range}
use Rattle.lexer.specs.Words.{Numbered}
use Rattle.lexer.specs.declared.refusal.Refusal.{Refusal}
use mathlib.Core.Bool.{true, false}
use mathlib.Core.List.{List, [], ◌∷◌, ◌++◌, append-nil}
use mathlib.Core.Path.{◌≡◌, refl, ap}
use native.Mathlib.Nat.{add-zero}
use native.Mathlib.Omega.{arith}

module _ (text work : List ℕ) (i end : ℕ) where
  -- the words from an index on: a newline is none of them
  pub words-newline : i < end → newline (word_of text work i) ≡ true → words (range text work i end) ≡ words (range text work (i + 1) end)
  unfolding words pick
  words-newline h e = rw (range-next text work i end h, e)

  pub words-next : i < end → newline (word_of text work i) ≡ false → words (range text work i end) ≡ word_of text work i ∷ words (range text work (i + 1) end)
  unfolding words pick
  words-next h e = rw (range-next text work i end h, e)

  pub words-end : end ≤ i → words (range text work i end) ≡ []
  unfolding words
  words-end h = rw (range-end text work i end h)

-- The words up to an index, with the one there.
words_append : (l r : List Numbered) → words (l ++ r) ≡ words l ++ words r
unfolding words pick
words_append [] r = refl
words_append (w ∷ l) r = by-test (newline w) (λ e. rw (e, words_append l r) refl) (λ e. rw (e, words_append l r) refl)

module _ (text work : List ℕ) where
  counted-last : (n i : ℕ) → words_of text work i (suc n) ≡ words_of text work i n ++ (word_of text work (i + n) ∷ [])
  unfolding words_of
  counted-last zero i = rw (add-zero i) refl
  counted-last (suc n) i =
      let next : i + suc n ≡ suc i + n = omega arith in
      rw next (ap (λ l. word_of text work i ∷ l) (counted-last n (suc i)))

  range_last : (from i : ℕ) → from ≤ i → range text work from (i + 1) ≡ range text work from i ++ (word_of text work i ∷ [])
  unfolding range
  range_last from i h =
      let count : (i + 1) - from ≡ suc (i - from) = omega arith in
      let at : from + (i - from) ≡ i = omega arith in
      rw (count, counted-last (i - from) from, at) refl

  module _ (from i : ℕ) (h : from ≤ i) where
    pub words_last : newline (word_of text work i) ≡ false → words (range text work from (i + 1)) ≡ words (range text work from i) ++ (word_of text work i ∷ [])
    unfolding words pick
    words_last e = rw (range_last from i h, words_append (range text work from i) (word_of text work i ∷ []), e) refl

    pub words-last-newline : newline (word_of text work i) ≡ true → words (range text work from (i + 1)) ≡ words (range text work from i)
    unfolding words pick
    words-last-newline e = rw (range_last from i h, words_append (range text work from i) (word_of text work i ∷ []), e, append-nil) refl

-- The invariant of a walk: the state here and the words from here on come to what the whole comes to.
pub record Walking {S : Type 0} (turn : S → Numbered → Outcome S) (text work : List ℕ) (end : ℕ) (whole : Outcome S) (s : S) (i : ℕ) : Type 0 where
  pub rest : fold turn s (words (range text work i end)) ≡ whole

module _ {S : Type 0} {turn : S → Numbered → Outcome S} (text work : List ℕ) (end : ℕ) where
  pub walking_start : (s : S) (i : ℕ) → Walking turn text work end (fold turn s (words (range text work i end))) s i
  walking_start s i = record { rest = refl }

  module _ {whole : Outcome S} {s : S} (i : ℕ) (k : Walking turn text work end whole s i) where
    pub walking-newline : i < end → newline (word_of text work i) ≡ true → Walking turn text work end whole s (i + 1)
    walking-newline h e = record { rest = rw (words-newline text work i end h e) at k.rest }

    pub walking-turn : (t : S) → i < end → newline (word_of text work i) ≡ false → turn s (word_of text work i) ≡ done t → Walking turn text work end whole t (i + 1)
    unfolding fold then
    walking-turn t h e d = record { rest = rw (words-next text work i end h e, d) at k.rest }

    pub walking-refused : (n : Refusal) (j : ℕ) → i < end → newline (word_of text work i) ≡ false → turn s (word_of text work i) ≡ refused n j → refused n j ≡ whole
    unfolding fold then
    walking-refused n j h e d = rw (words-next text work i end h e, d) at k.rest

    pub walking-end : end ≤ i → done s ≡ whole
    unfolding fold
    walking-end h = rw (words-end text work i end h) at k.rest
