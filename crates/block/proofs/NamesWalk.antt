-- Walks over names: whether one is among those of some words, and whether the words of TAXLABELS are different names. Assumes nothing.
use Prim.Native.Nat.{ℕ, ◌+◌, ◌≤◌, ◌<◌}
use Rattle.block.proofs.WalkLaws.{words-newline, words-next, words-end, words_last, words-last-newline, Walking, walking-newline, walking_start, walking-turn, walking-end}
use Rattle.block.specs.Commands.{newline, words}
use Rattle.block.specs.Names.{known, add_name, name_turn, unique_names}
use Rattle.block.specs.NamesHeld.{name_of, names_of}
use Rattle.block.specs.Outcome.{done, refused, then, need}
use Rattle.lexer.proofs.Basics.{by-test}
use Rattle.lexer.proofs.RangeLaws.{range-kept}
use Rattle.lexer.proofs.LabelLaws.{label-some, label-none}
use Rattle.lexer.specs.Base.{pick, alike, given}
use Rattle.lexer.specs.Stored.{word_of, range}
use Rattle.lexer.specs.Words.{Numbered, label}
use Rattle.lexer.specs.declared.refusal.Refusal.{Refusal}
use borrow.Author.Tests.{ltb-true, ltb-false}
use lib.Dec.{ltb}
use lib.ListN.{take}
use mathlib.Core.Bool.{true, false}
use mathlib.Core.List.{List, [], ◌∷◌, ◌++◌, map-append}
use mathlib.Core.Path.{◌≡◌, sym, ap, ◌∙◌}
use native.Mathlib.Omega.{arith}

-- The names from an index on hold a name as all of them do.
pub record Searching (text work : List ℕ) (n : List ℕ) (from to j : ℕ) : Type 0 where
  pub rest : known n (names_of (words (range text work j to))) ≡ known n (names_of (words (range text work from to)))

module _ (text work : List ℕ) (n : List ℕ) (from to j : ℕ) (s : Searching text work n from to j) (h : j < to) where
  pub searching-newline : newline (word_of text work j) ≡ true → Searching text work n from to (j + 1)
  searching-newline e = record { rest = rw (words-newline text work j to h e) at s.rest }

  pub searching-turn : newline (word_of text work j) ≡ false → alike n (name_of (word_of text work j)) ≡ false → Searching text work n from to (j + 1)
  unfolding names_of known
  searching-turn e d = record { rest = rw (words-next text work j to h e, d) at s.rest }

  pub searching-found : newline (word_of text work j) ≡ false → alike n (name_of (word_of text work j)) ≡ true → true ≡ known n (names_of (words (range text work from to)))
  unfolding names_of known
  searching-found e d = rw (words-next text work j to h e, d) at s.rest

pub searching-end : (text work : List ℕ) (n : List ℕ) (from to j : ℕ) → Searching text work n from to j → to ≤ j → false ≡ known n (names_of (words (range text work from to)))
unfolding names_of known
searching-end text work n from to j s h = rw (words-end text work j to h) at s.rest

-- One more word: it is no name, or known, or one more name.
module _ (names : List (List ℕ)) (w : Numbered) where
  pub nameless : given (label w) ≡ false → name_turn names w ≡ refused Refusal.NotName w.index
  unfolding name_turn need then
  nameless h = rw (label-none w h)

  pub name-again : given (label w) ≡ true → known (name_of w) names ≡ true → name_turn names w ≡ refused Refusal.TaxonTwice w.index
  unfolding name_turn need then add_name pick name_of
  name-again h e = rw (label-some w h, e)

  name_new : given (label w) ≡ true → known (name_of w) names ≡ false → name_turn names w ≡ done (names ++ (name_of w ∷ []))
  unfolding name_turn need then add_name pick name_of
  name_new h e = rw (label-some w h, e)

-- The names up to here are different, and what the rest comes to with them is the whole.
pub record Naming (text work : List ℕ) (from to i : ℕ) : Type 0 where
  pub since : from ≤ i
  pub within : to < i → i ≤ from
  pub walk : Walking name_turn text work to (unique_names (words (range text work from to))) (names_of (words (range text work from i))) i

module _ (text work : List ℕ) (from to i : ℕ) (k : Naming text work from to i) (h : i < to) where
  pub naming-newline : newline (word_of text work i) ≡ true → Naming text work from to (i + 1)
  naming-newline e = record { since = omega (arith, k.since); within = λ l. omega arith; walk = rw (words-last-newline text work from i k.since e) (walking-newline text work to i k.walk h e) }

  pub naming-turn : newline (word_of text work i) ≡ false → given (label (word_of text work i)) ≡ true
      → known (name_of (word_of text work i)) (names_of (words (range text work from i))) ≡ false → Naming text work from to (i + 1)
  unfolding names_of
  naming-turn e g d =
      record {
        since = omega (arith, k.since);
        within = λ l. omega arith;
        walk = rw (words_last text work from i k.since e, map-append) (walking-turn text work to i k.walk _ h e (name_new (names_of (words (range text work from i))) (word_of text work i) g d));
      }

-- The same where the words were kept.
pub naming-kept : (text work before : List ℕ) (at : ℕ) → take at work ≡ take at before → (from to i : ℕ) → i ≤ to → to ≤ at → Naming text before from to i → Naming text work from to i
naming-kept text work before at kept from to i h l k =
    record {
      since = k.since;
      within = k.within;
      walk = record { rest = rw (range-kept text work before at kept from to l, range-kept text work before at kept from i (omega arith), range-kept text work before at kept i to l) k.walk.rest };
    }

pub naming-start : (text work : List ℕ) (from to : ℕ) → Naming text work from to from
unfolding unique_names names_of
naming-start text work from to =
    record { since = omega arith; within = λ l. omega arith; walk = rw (words-end text work from from (omega arith)) (walking_start text work to [] from) }

pub naming-end : (text work : List ℕ) (from to i : ℕ) → Naming text work from to i → to ≤ i → done (names_of (words (range text work from to))) ≡ unique_names (words (range text work from to))
naming-end text work from to i k h = by-test (ltb to i) (λ e. past (ltb-true to i e)) (λ e. met (ltb-false to i e))
  where
    all : done (names_of (words (range text work from i))) ≡ unique_names (words (range text work from to))
    all = walking-end text work to i k.walk h

    past : to < i → done (names_of (words (range text work from to))) ≡ unique_names (words (range text work from to))
    past l =
        let w = k.within l in
        let same : words (range text work from to) ≡ words (range text work from i) = words-end text work from to (omega (arith, k.since)) ∙ sym (words-end text work from i w) in
        ap (λ ws. done (names_of ws)) same ∙ all

    met : i ≤ to → done (names_of (words (range text work from to))) ≡ unique_names (words (range text work from to))
    met l = let same : i ≡ to = omega arith in rw same at all
