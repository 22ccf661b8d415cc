-- So many names from the word of an index on: the walks that count them, and that put a line for each. Assumes nothing.
use Prim.Native.Nat.{ℕ, suc, ◌+◌, ◌-◌, ◌≤◌, ◌<◌}
use Rattle.block.proofs.WalkLaws.{words-end, words-newline, words-next}
use Rattle.block.specs.Commands.{newline, words}
use Rattle.block.specs.NamesHeld.{name_of, names_of}
use Rattle.emit.specs.Puts.{Puts}
use Rattle.lexer.specs.Base.{bytes}
use Rattle.lexer.specs.Stored.{range, word_of}
use Rattle.reading.proofs.PutWalks.{Putting, putting-as, putting-end, putting-turn}
use Rattle.reading.specs.Pieces.{name_piece}
use Rattle.record.specs.Spell.{line, spell_states}
use lib.ListN.{length, take}
use lib.Seq.{take-nil}
use mathlib.Core.Bool.{false, true}
use mathlib.Core.List.{List, [], ◌∷◌, ◌++◌}
use mathlib.Core.Path.{◌≡◌, ap}
use native.Mathlib.Omega.{arith}

abbrev pub few_names : List ℕ → List ℕ → ℕ → ℕ → List (List ℕ)
few_names text starts most i = take most (names_of (words (range text starts i (length starts))))

module _ (text starts : List ℕ) (most i : ℕ) where
  few-newline : i < length starts → newline (word_of text starts i) ≡ true → few_names text starts most i ≡ few_names text starts most (i + 1)
  few-newline h e = rw (words-newline text starts i (length starts) h e)

  few-next : i < length starts → newline (word_of text starts i) ≡ false → 0 < most
      → few_names text starts most i ≡ name_of (word_of text starts i) ∷ few_names text starts (most - 1) (i + 1)
  unfolding names_of
  few-next h e some =
      let count : most ≡ suc (most - 1) = omega arith in
      rw (words-next text starts i (length starts) h e) (ap (λ n. take n (name_of (word_of text starts i) ∷ names_of (words (range text starts (i + 1) (length starts))))) count)

  few-none : most ≡ 0 → few_names text starts most i ≡ []
  few-none e = rw e

  few-end : length starts ≤ i → few_names text starts most i ≡ []
  unfolding names_of
  few-end h = rw (words-end text starts i (length starts) h) (take-nil most)

-- The names from an index on, with those counted before it, are all.
pub record Counting (text starts : List ℕ) (from most count i : ℕ) : Type 0 where
  pub below : count ≤ most
  pub rest : count + length (few_names text starts (most - count) i) ≡ length (few_names text starts most from)

module _ (text starts : List ℕ) (from most : ℕ) where
  module _ (count i : ℕ) (c : Counting text starts from most count i) where
    pub counting-newline : i < length starts → newline (word_of text starts i) ≡ true → Counting text starts from most count (i + 1)
    counting-newline h e = record { below = c.below; rest = omega (arith, c.rest, ap length (few-newline text starts (most - count) i h e)) }

    pub counting-turn : i < length starts → newline (word_of text starts i) ≡ false → count < most → Counting text starts from most (count + 1) (i + 1)
    counting-turn h e some =
        let less : (most - count) - 1 ≡ most - (count + 1) = omega arith in
        let next = rw less at (ap length (few-next text starts (most - count) i h e (omega arith))) in
        record { below = omega arith; rest = omega (arith, c.rest, next) }

    pub counting-end : length starts ≤ i → count ≡ length (few_names text starts most from)
    counting-end h = omega (arith, c.rest, ap length (few-end text starts (most - count) i h))

-- The lines of these names: what was put so far and those of the names from an index on are the whole.
pub record Listing (text starts before : List ℕ) (at : ℕ) (whole : List ℕ → List ℕ) (buffer : List ℕ) (n most i : ℕ) : Type 0 where
  pub walk : Putting before at whole buffer n (spell_states (few_names text starts most i))

module _ (text starts before : List ℕ) (at : ℕ) where
  module _ (whole : List ℕ → List ℕ) (buffer : List ℕ) (n most i : ℕ) (l : Listing text starts before at whole buffer n most i) where
    pub listing-newline : i < length starts → newline (word_of text starts i) ≡ true → Listing text starts before at whole buffer n most (i + 1)
    listing-newline h e = record { walk = putting-as l.walk (λ behind. rw (few-newline text starts most i h e)) }

    pub listing-turn : (after : List ℕ) (next : ℕ) → i < length starts → newline (word_of text starts i) ≡ false → (most ≡ 0 → ⊥)
        → Puts buffer n (λ behind. bytes "state=" ++ name_piece text starts i (10 ∷ behind)) after next
        → Listing text starts before at whole after next (most - 1) (i + 1)
    unfolding spell_states line name_piece
    listing-turn after next h e some p = record { walk = putting-turn l.walk p (λ behind. rw (few-next text starts most i h e (omega (arith, some)))) }

    pub listing_full : most ≡ 0 → Puts before at whole buffer n
    unfolding spell_states
    listing_full e = putting-end l.walk (λ behind. rw (few-none text starts most i e))

    pub listing-end : length starts ≤ i → Puts before at whole buffer n
    unfolding spell_states
    listing-end h = putting-end l.walk (λ behind. rw (few-end text starts most i h))
