-- CHARLABELS in place: the characters up to here are labelled, and what the others come to with the words from here on is the whole. Assumes nothing.
use Prim.Native.Nat.{ℕ, suc, ◌+◌, ◌-◌, ◌≤◌, ◌<◌}
use Rattle.block.proofs.WalkLaws.{words-newline, words-next, words-end}
use Rattle.block.specs.Commands.{newline, words}
use Rattle.block.specs.Labels.{Labelled, unlabelled, character, with_label, label_each, char_labels}
use Rattle.block.specs.Outcome.{Outcome, done, refused, then, need}
use Rattle.labels.proofs.LabelSlotLaws.{held-length}
use Rattle.labels.specs.LabelSlots.{label_one, labels_held}
use Rattle.lexer.proofs.Basics.{by-test}
use Rattle.lexer.proofs.LabelLaws.{label-some, label-none}
use Rattle.lexer.proofs.RangeLaws.{word-front, range_front}
use Rattle.lexer.specs.Base.{pick, given}
use Rattle.lexer.specs.Stored.{word_of, range}
use Rattle.lexer.specs.Words.{Numbered, label, spaced}
use Rattle.lexer.specs.declared.refusal.Refusal.{Refusal}
use borrow.Author.Tests.{eq-eqb, ne_eqb}
use lib.ListN.{length, get_or, take, drop, take-append-drop, drop_of_length-le}
use lib.Seq.{drop-cons, drop-set-lt, take-suc-set, take_all}
use mathlib.Core.Bool.{true, false}
use mathlib.Core.List.{List, [], ◌∷◌, ◌++◌, append_assoc, append-nil}
use mathlib.Core.Option.{some}
use mathlib.Core.Path.{◌≡◌, refl, sym, ap, ◌∙◌}
use native.Mathlib.Numerals.{add-one}
use native.Mathlib.Omega.{arith}

-- Characters in front of an outcome
abbrev behind : List Labelled → Outcome (List Labelled) → Outcome (List Labelled)
behind front o = then o (λ r. done (front ++ r))

behind-none : (o : Outcome (List Labelled)) → behind [] o ≡ o
unfolding then
behind-none (done r) = refl
behind-none (refused n i) = refl

behind_more : (front : List Labelled) (c : Labelled) (o : Outcome (List Labelled)) → behind front (then o (λ r. done (c ∷ r))) ≡ behind (front ++ (c ∷ [])) o
unfolding then
behind_more front c (done r) = ap done (sym (append_assoc front (c ∷ []) r))
behind_more front c (refused n i) = refl

each_none : (cs : List Labelled) → label_each cs [] ≡ done cs
unfolding label_each
each_none [] = refl
each_none (c ∷ cs) = refl

-- The next character takes the next word.
module _ (cs : List Labelled) (k : ℕ) (h : k < length cs) (w : Numbered) (ws : List Numbered) where
  abbrev more : List Labelled → Outcome (List Labelled)
  more ds = behind (take (suc k) ds) (label_each (drop (suc k) ds) ws)

  each_next : behind (take k cs) (label_each (drop k cs) (w ∷ ws)) ≡ then (label_one cs (suc k) w.index w) more
  unfolding label_each label_one character pick then need with_label
  each_next =
      let this : suc k - 1 ≡ k = omega arith in
      rw (drop-cons cs k unlabelled h, this)
      (by-test (given (get_or cs k unlabelled).label) (λ e. rw e refl)
      (λ e. by-test (given (label w))
      (λ g. let c : Labelled = record { label = some (spaced w.token.text); states = (get_or cs k unlabelled).states } in
      rw (e, label-some w g, drop-set-lt (suc k) cs k c (omega arith), take-suc-set cs k c h) (behind_more (take k cs) c (label_each (drop (suc k) cs) ws)))
      (λ g. rw (e, label-none w g) refl)))

-- The walk: the words are those in front of the labels, by what stood there at the start.
pub record Each (text : List ℕ) (at n : ℕ) (before : List ℕ) (from to : ℕ) (work : List ℕ) (k i : ℕ) : Type 0 where
  pub size : length work ≡ length before
  pub front : take at work ≡ take at before
  pub below : k ≤ n
  pub rest : behind (take k (labels_held text work at n)) (label_each (drop k (labels_held text work at n)) (words (range text (take at before) i to))) ≡ label_each (labels_held text before at n) (words (range text before from to))

-- A word in front of the labels is what it was.
pub word_kept : (text : List ℕ) (at : ℕ) (before work : List ℕ) → take at work ≡ take at before → (i : ℕ) → i < at → word_of text work i ≡ word_of text (take at before) i
word_kept text at before work front i h = sym (word-front text work at i h) ∙ ap (λ (f : List ℕ). word_of text f i) front

module _ (text : List ℕ) (at n : ℕ) (before : List ℕ) (from to : ℕ) (within : to ≤ at) where
  pub each_start : Each text at n before from to before 0 from
  each_start = record { size = refl; front = refl; below = omega arith; rest = rw (range_front text before at from to within) (behind-none (label_each (labels_held text before at n) (words (range text before from to)))) }

  module _ (work : List ℕ) (k i : ℕ) (e : Each text at n before from to work k i) where
    pub each-newline : i < to → newline (word_of text work i) ≡ true → Each text at n before from to work k (i + 1)
    each-newline h l =
        let kept = rw (word_kept text at before work e.front i (omega arith)) at l in
        record { size = e.size; front = e.front; below = e.below; rest = rw (words-newline text (take at before) i to h kept) at e.rest }

    pub each-end : to ≤ i → done (labels_held text work at n) ≡ label_each (labels_held text before at n) (words (range text before from to))
    unfolding then
    each-end h =
        sym (ap done (take-append-drop k (labels_held text work at n)))
        ∙ rw (words-end text (take at before) i to h, each_none (drop k (labels_held text work at n))) at e.rest

    pub each-full : n ≤ k → done (labels_held text work at n) ≡ label_each (labels_held text before at n) (words (range text before from to))
    unfolding then label_each
    each-full h =
        let past : length (labels_held text work at n) ≤ k = omega (arith, held-length text work at n) in
        let all : take k (labels_held text work at n) ++ [] ≡ labels_held text work at n = append-nil (take k (labels_held text work at n)) ∙ take_all k (labels_held text work at n) past in
        sym (ap done all) ∙ rw (drop_of_length-le (labels_held text work at n) past) at e.rest

    -- the next word, by what labelling the next character comes to
    module _ (h : i < to) (l : newline (word_of text work i) ≡ false) (room : k < n) where
      next : then (label_one (labels_held text work at n) (suc k) i (word_of text work i)) (λ ds. behind (take (suc k) ds) (label_each (drop (suc k) ds) (words (range text (take at before) (i + 1) to)))) ≡ label_each (labels_held text before at n) (words (range text before from to))
      unfolding word_of
      next =
          let same = word_kept text at before work e.front i (omega arith) in
          let step = each_next (labels_held text work at n) k (omega (arith, held-length text work at n)) (word_of text work i) (words (range text (take at before) (i + 1) to)) in
          sym step ∙ rw (words-next text (take at before) i to h (rw same at l), ← same) at e.rest

      pub each_turn : (after : List ℕ) → length after ≡ length work → take at after ≡ take at work → done (labels_held text after at n) ≡ label_one (labels_held text work at n) (k + 1) i (word_of text work i) → Each text at n before from to after (k + 1) (i + 1)
      unfolding then
      each_turn after size front o =
          record {
            size = size ∙ e.size;
            front = front ∙ e.front;
            below = omega arith;
            rest = rw (add-one k) (rw (← (rw (add-one k) at o)) at next);
          }

      pub each-refused : (m : Refusal) (j : ℕ) → refused m j ≡ label_one (labels_held text work at n) (k + 1) i (word_of text work i) → refused m j ≡ label_each (labels_held text before at n) (words (range text before from to))
      unfolding then
      each-refused m j o = rw (← (rw (add-one k) at o)) at next

-- The count of words is judged first.
module _ (text work : List ℕ) (at n head : ℕ) (ws : List Numbered) (m : ℕ) (counted : m ≡ length ws) where
  pub count-right : m ≡ n → char_labels head ws (labels_held text work at n) ≡ label_each (labels_held text work at n) ws
  unfolding char_labels pick
  count-right h = rw (held-length text work at n, eq-eqb (length ws) n (sym counted ∙ h))

  pub count-wrong : (m ≡ n → ⊥) → char_labels head ws (labels_held text work at n) ≡ refused Refusal.Count head
  unfolding char_labels pick
  count-wrong h = rw (held-length text work at n, ne_eqb (length ws) n (λ e. h (counted ∙ e)))
