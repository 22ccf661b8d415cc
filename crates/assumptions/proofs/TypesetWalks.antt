-- TYPESET word by word, from a mode on. Assumes nothing.
use Prim.Native.Nat.{ℕ, ◌+◌, ◌≤◌, ◌<◌}
use Rattle.assumptions.specs.NextWord.{Found, Next}
use Rattle.assumptions.specs.TypesetWalk.{typeset_from, typeset_at, set_of, after_equals}
use Rattle.block.specs.Commands.{words, newline}
use Rattle.block.specs.Outcome.{Outcome, done, refused, then, fold, need}
use Rattle.block.specs.Typeset.{Typing, named, equals, Typeset, name_word, equals_word, typeset_turn, typeset_end}
use Rattle.block.specs.declared.kinds.Form.{Form}
use Rattle.block.proofs.WalkLaws.{words-newline}
use Rattle.lexer.proofs.RangeLaws.{word_kept, range-kept}
use Rattle.lexer.specs.Base.{pick, given}
use Rattle.lexer.specs.Stored.{word_of, range}
use Rattle.lexer.specs.Words.{Numbered, label, punct}
use Rattle.lexer.specs.declared.refusal.Refusal.{Refusal}
use lib.ListN.{take}
use mathlib.Core.Bool.{true, false, false≢true, true≢false}
use mathlib.Core.List.{List, [], ◌∷◌}
use mathlib.Core.Option.{Option, none, some}
use mathlib.Core.Path.{◌≡◌, refl, sym, ◌∙◌}
use native.Mathlib.Omega.{arith}

-- The next word is the same where work memory was kept up to a place.
module _ (text work before : List ℕ) (at : ℕ) (front : take at work ≡ take at before) (to : ℕ) (h : to ≤ at) where
  same-range : (i : ℕ) → range text work i to ≡ range text before i to
  same-range i = range-kept text work before at front i to h

  pub next-front : (i r : ℕ) → Next text work i to r → Next text before i to r
  next-front i r n =
      record {
        onward = n.onward;
        here = λ l. rw (same-range i, word_kept text work before at front r (omega arith), same-range (r + 1)) at (n.here l);
        past = λ l. rw (same-range i) at (n.past l);
      }

then-then : {A B C : Type 0} (o : Outcome A) (f : A → Outcome B) (g : B → Outcome C) → then (then o f) g ≡ then o (λ a. then (f a) g)
unfolding then
then-then (done a) f g = refl
then-then (refused n i) f g = refl

module _ (t : Typeset) where
  -- one word from a mode on
  from-word : (s : Typing) (w : Numbered) (ws : List Numbered) → typeset_from t s (w ∷ ws) ≡ then (typeset_turn t s w) (λ u. typeset_from t u ws)
  unfolding typeset_from fold
  from-word s w ws = then-then (typeset_turn t s w) (λ u. fold (typeset_turn t) u ws) (typeset_end t)

  module _ (text work : List ℕ) (to : ℕ) (s : Typing) where
    module _ (from : ℕ) where
      pub at-end : words (range text work from to) ≡ [] → typeset_end t s ≡ typeset_at t text work to s from
      unfolding typeset_at typeset_from fold then
      at-end e = rw e

      pub at-newline : from < to → newline (word_of text work from) ≡ true → typeset_at t text work to s (from + 1) ≡ typeset_at t text work to s from
      unfolding typeset_at
      at-newline l e = rw (words-newline text work from to l e)

    module _ {from r : ℕ} (n : Found text work from to r) where
      at-word : typeset_at t text work to s from ≡ then (typeset_turn t s (word_of text work r)) (λ u. typeset_at t text work to u (r + 1))
      unfolding typeset_at
      at-word = rw n.here (from-word s (word_of text work r) (words (range text work (r + 1) to)))

      pub at_done : (u : Typing) → typeset_turn t s (word_of text work r) ≡ done u → typeset_at t text work to u (r + 1) ≡ typeset_at t text work to s from
      unfolding then
      at_done u e = sym (at-word ∙ rw e)

      pub at-refused : (m : Refusal) (j : ℕ) → typeset_turn t s (word_of text work r) ≡ refused m j → refused m j ≡ typeset_at t text work to s from
      unfolding then
      at-refused m j e = sym (at-word ∙ rw e)

      -- two modes that agree on a word
      pub at-alike : (s' : Typing) → typeset_turn t s' (word_of text work r) ≡ typeset_turn t s (word_of text work r) → typeset_at t text work to s' from ≡ typeset_at t text work to s from
      unfolding typeset_at
      at-alike s' e =
          let w = word_of text work r in
          let ws = words (range text work (r + 1) to) in
          rw n.here (from-word s' w ws ∙ rw e (sym (from-word s w ws)))

-- The name
module _ (w : Numbered) where
  pub name-good : given (label w) ≡ true → name_word w ≡ done named
  unfolding name_word given need then
  name-good h = go (label w) h
    where
      go : (o : Option (List ℕ)) → given o ≡ true → then (need o Refusal.NotName w.index) (λ n. done named) ≡ done named
      go none h = absurd (false≢true h)
      go (some n) h = refl

  pub name-none : given (label w) ≡ false → name_word w ≡ refused Refusal.NotName w.index
  unfolding name_word given need then
  name-none h = go (label w) h
    where
      go : (o : Option (List ℕ)) → given o ≡ false → then (need o Refusal.NotName w.index) (λ n. done named) ≡ refused Refusal.NotName w.index
      go none h = refl
      go (some n) h = absurd (true≢false h)

-- The `=`
pub equals-turn : (n h : ℕ) (f : Form) (w : Numbered) → typeset_turn (set_of n h) (equals f) w ≡ pick (punct 61 w) (done (after_equals n f)) (refused Refusal.TypeSet h)
unfolding typeset_turn equals_word after_equals set_of
equals-turn n h Form.Standard w = refl
equals-turn n h Form.Vector w = refl
