-- Laws of the labels that work memory holds: what a store at a character's number gives, and what is read there. Assumes nothing.
use Prim.Native.Nat.{ℕ, zero, suc, ◌+◌, ◌-◌, ◌*◌, ◌/◌, ◌%◌, ◌≤◌, ◌<◌}
use Rattle.block.proofs.WalkLaws.{words-newline, words-next, words-end}
use Rattle.block.specs.Commands.{newline, words}
use Rattle.block.specs.Labels.{Labelled, unlabelled, character, with_label, with_states}
use Rattle.block.specs.NamesHeld.{name_of, names_of}
use Rattle.labels.specs.LabelSlots.{label_slot, states_slot, slots, labels_of, labels_held}
use Rattle.lexer.proofs.Basics.{by-test}
use Rattle.lexer.proofs.RangeLaws.{word-front, range_front}
use Rattle.lexer.specs.Base.{given}
use Rattle.lexer.specs.Stored.{word_of, range}
use Rattle.std.proofs.lemmas.List.{get_or-append_right, get_or_append_left}
use borrow.Author.Tests.{ne_eqb, eqb-true, eqb-false}
use lib.Dec.{eqb}
use lib.ListN.{length, get_or, take, set, replicate, length-set, length-map, length-replicate, get_or-replicate}
use lib.Seq.{get_or-set_same, get_or-set_other, take-set-le, take_at, length-take-le, ext_get_or}
use mathlib.Core.Bool.{not}
use mathlib.Core.List.{List, ◌∷◌, ◌++◌, map, map-append}
use mathlib.Core.Path.{◌≡◌, refl, sym, ap, ◌∙◌}
use native.Mathlib.Nat.{add-zero}
use native.Mathlib.Numerals.{add-one}
use native.Mathlib.Omega.{arith}

-- A number is 0 or stands for a label.
module _ (text front : List ℕ) where
  label-given : (v : ℕ) → given (label_slot text front v) ≡ not (eqb v 0)
  unfolding label_slot given
  label-given zero = refl
  label-given (suc i) = rw (ne_eqb (suc i) 0 (λ e. omega arith))

  states-given : (v : ℕ) → given (states_slot text front v) ≡ not (eqb v 0)
  unfolding states_slot given
  states-given zero = refl
  states-given (suc i) = rw (ne_eqb (suc i) 0 (λ e. omega arith))

-- Each character by its two numbers
module _ (text front work : List ℕ) where
  labels_length : (l s n : ℕ) → length (labels_of text front work l s n) ≡ n
  unfolding labels_of
  labels_length l s zero = refl
  labels_length l s (suc n) = ap suc (labels_length (suc l) (suc s) n)

  labels_at : (l s n j : ℕ) → j < n → get_or (labels_of text front work l s n) j unlabelled ≡ slots text front (get_or work (l + j) 0) (get_or work (s + j) 0)
  unfolding labels_of
  labels_at l s zero j h = absurd (omega arith)
  labels_at l s (suc n) zero h = rw (add-zero l, add-zero s)
  labels_at l s (suc n) (suc j) h =
      let a : suc l + j ≡ l + suc j = omega arith in
      let b : suc s + j ≡ s + suc j = omega arith in
      rw (← a, ← b) (labels_at (suc l) (suc s) n j (omega arith))

module _ (text work : List ℕ) (at n : ℕ) where
  pub held-length : length (labels_held text work at n) ≡ n
  unfolding labels_held
  held-length = labels_length text (take at work) work at (at + n) n

  held_at : (j : ℕ) → j < n → get_or (labels_held text work at n) j unlabelled ≡ slots text (take at work) (get_or work (at + j) 0) (get_or work (at + n + j) 0)
  unfolding labels_held
  held_at j h = labels_at text (take at work) work at (at + n) n j h

  -- the character with a number, from 1 on
  module _ (k : ℕ) (from : 1 ≤ k) (to : k ≤ n) where
    character-held : character k (labels_held text work at n) ≡ slots text (take at work) (get_or work (at + (k - 1)) 0) (get_or work (at + n + (k - 1)) 0)
    unfolding character
    character-held = held_at (k - 1) (omega arith)

    pub character-label : given (character k (labels_held text work at n)).label ≡ not (eqb (get_or work (at + (k - 1)) 0) 0)
    unfolding slots
    character-label = rw character-held (label-given text (take at work) (get_or work (at + (k - 1)) 0))

    pub character-states : given (character k (labels_held text work at n)).states ≡ not (eqb (get_or work (at + n + (k - 1)) 0) 0)
    unfolding slots
    character-states = rw character-held (states-given text (take at work) (get_or work (at + n + (k - 1)) 0))

-- Labels are those of characters that are told one by one.
module _ (text work after : List ℕ) (at n : ℕ) (front : take at after ≡ take at work) where
  held-told : (cs : List Labelled) → length cs ≡ n → ((j : ℕ) → j < n → slots text (take at work) (get_or after (at + j) 0) (get_or after (at + n + j) 0) ≡ get_or cs j unlabelled) → labels_held text after at n ≡ cs
  held-told cs size each =
      ext_get_or unlabelled (labels_held text after at n) cs (held-length text after at n ∙ sym size)
      (λ j h. let l : j < n = rw (held-length text after at n) at h in held_at text after at n j l ∙ rw front (each j l))

  -- Where every number is 0, none is labelled.
  held_none : ((j : ℕ) → at ≤ j → j < at + 2 * n → get_or after j 0 ≡ 0) → labels_held text after at n ≡ replicate n unlabelled
  unfolding slots label_slot states_slot unlabelled
  held_none clear =
      held-told (replicate n unlabelled) (length-replicate n unlabelled)
      (λ j h. rw (clear (at + j) (omega arith) (omega arith), clear (at + n + j) (omega arith) (omega arith)) (sym (get_or-replicate n j unlabelled unlabelled h)))

-- Where the numbers of all were filled with 0, none is labelled.
pub held-filled : (text work zeros rest : List ℕ) (at n : ℕ) → at + 2 * n ≤ length work → zeros ≡ replicate (2 * n) 0 → labels_held text (take at work ++ (zeros ++ rest)) at n ≡ replicate n unlabelled
held-filled text work zeros rest at n fits filled =
    let whole : length (take at work) ≡ at = length-take-le at work (omega arith) in
    let cleared : length zeros ≡ 2 * n = rw filled (length-replicate (2 * n) 0) in
    held_none text work (take at work ++ (zeros ++ rest)) at n (take_at (take at work) (zeros ++ rest) at whole)
    (λ j l h. get_or-append_right (take at work) (zeros ++ rest) at j 0 whole l
    ∙ get_or_append_left zeros rest 0 (j - at) (omega arith)
    ∙ rw filled (get_or-replicate (2 * n) (j - at) 0 0 (omega arith)))

-- What changes one character alone
module _ (text work : List ℕ) (at n : ℕ) (fits : at + 2 * n ≤ length work) (k : ℕ) (from : 1 ≤ k) (to : k ≤ n) where
  held-changed : (after : List ℕ) (this : Labelled) → take at after ≡ take at work
      → slots text (take at work) (get_or after (at + (k - 1)) 0) (get_or after (at + n + (k - 1)) 0) ≡ this
      → ((j : ℕ) → j < n → (j ≡ k - 1 → ⊥) → (get_or after (at + j) 0 ≡ get_or work (at + j) 0) × (get_or after (at + n + j) 0 ≡ get_or work (at + n + j) 0))
      → labels_held text after at n ≡ set (labels_held text work at n) (k - 1) this
  held-changed after this front here others = held-told text work after at n front (set (labels_held text work at n) (k - 1) this) (length-set (labels_held text work at n) (k - 1) this ∙ held-length text work at n) each
    where
      room : k - 1 < length (labels_held text work at n)
      room = rw (held-length text work at n) (omega arith)

      each : (j : ℕ) → j < n → slots text (take at work) (get_or after (at + j) 0) (get_or after (at + n + j) 0) ≡ get_or (set (labels_held text work at n) (k - 1) this) j unlabelled
      each j h =
          by-test (eqb j (k - 1))
          (λ e. rw (eqb-true j (k - 1) e, get_or-set_same (labels_held text work at n) (k - 1) this unlabelled room) here)
          (λ e. let other = eqb-false j (k - 1) e in let o = others j h other in rw (o.0, o.1, get_or-set_other (labels_held text work at n) (k - 1) j this unlabelled other) (sym (held_at text work at n j h)))

  -- A store at a character's number: the label
  held-set-label : (v : ℕ) → labels_held text (set work (at + (k - 1)) v) at n ≡ set (labels_held text work at n) (k - 1) (record { label = label_slot text (take at work) v; states = (character k (labels_held text work at n)).states })
  unfolding slots
  held-set-label v =
      held-changed (set work (at + (k - 1)) v) _ (take-set-le at work (at + (k - 1)) v (omega arith))
      (rw (get_or-set_same work (at + (k - 1)) v 0 (omega arith), get_or-set_other work (at + (k - 1)) (at + n + (k - 1)) v 0 (λ e. omega arith), character-held text work at n k from to) refl)
      (λ j h o. (get_or-set_other work (at + (k - 1)) (at + j) v 0 (λ e. o (omega arith)), get_or-set_other work (at + (k - 1)) (at + n + j) v 0 (λ e. omega arith)))

  -- or the state labels
  held-set-states : (v : ℕ) → labels_held text (set work (at + n + (k - 1)) v) at n ≡ set (labels_held text work at n) (k - 1) (record { label = (character k (labels_held text work at n)).label; states = states_slot text (take at work) v })
  unfolding slots
  held-set-states v =
      held-changed (set work (at + n + (k - 1)) v) _ (take-set-le at work (at + n + (k - 1)) v (omega arith))
      (rw (get_or-set_same work (at + n + (k - 1)) v 0 (omega arith), get_or-set_other work (at + n + (k - 1)) (at + (k - 1)) v 0 (λ e. omega arith), character-held text work at n k from to) refl)
      (λ j h o. (get_or-set_other work (at + n + (k - 1)) (at + j) v 0 (λ e. omega arith), get_or-set_other work (at + n + (k - 1)) (at + n + j) v 0 (λ e. o (omega arith))))

-- Words up to an index, and those from there on
module _ (text work : List ℕ) (end : ℕ) where
  words-split : (n i : ℕ) → i + n ≤ end → words (range text work i end) ≡ words (range text work i (i + n)) ++ words (range text work (i + n) end)
  words-split zero i h = rw (add-zero i, words-end text work i i (omega arith))
  words-split (suc n) i h =
      let next : i + suc n ≡ i + 1 + n = omega arith in
      let more = rw (← next) at (words-split n (i + 1) (omega arith)) in
      by-test (newline (word_of text work i))
      (λ e. words-newline text work i end (omega arith) e ∙ rw (words-newline text work i (i + suc n) (omega arith) e) more)
      (λ e. words-next text work i end (omega arith) e ∙ rw (words-next text work i (i + suc n) (omega arith) e) (ap (λ ws. word_of text work i ∷ ws) more))

  -- so many names from an index on are those of the words up to another
  names-front : (from i : ℕ) → from ≤ i → i ≤ end → take (length (words (range text work from i))) (names_of (words (range text work from end))) ≡ names_of (words (range text work from i))
  unfolding names_of
  names-front from i l h =
      let here : from + (i - from) ≡ i = omega arith in
      let split : words (range text work from end) ≡ words (range text work from i) ++ words (range text work i end) = rw here at (words-split (i - from) from (omega arith)) in
      rw (split, map-append)
      (take_at (map name_of (words (range text work from i))) (map name_of (words (range text work i end))) (length (words (range text work from i))) (length-map (words (range text work from i)) name_of))

-- A label stored, and state labels
module _ (text work : List ℕ) (at n : ℕ) (fits : at + 2 * n ≤ length work) (k : ℕ) (from : 1 ≤ k) (to : k ≤ n) where
  pub stored-label : (i : ℕ) → i < at → labels_held text (set work (at + (k - 1)) (i + 1)) at n ≡ with_label k (name_of (word_of text work i)) (labels_held text work at n)
  unfolding with_label label_slot
  stored-label i h = held-set-label text work at n fits k from to (i + 1) ∙ rw (add-one i, word-front text work at i h)

  pub stored-states : (first i count : ℕ) → first ≤ i → i ≤ at → count ≡ length (words (range text work first i)) → count < 128
      → labels_held text (set work (at + n + (k - 1)) (first * 128 + count + 1)) at n ≡ with_states k (names_of (words (range text work first i))) (labels_held text work at n)
  unfolding with_states states_slot
  stored-states first i count l h e few =
      let quotient : (first * 128 + count) / 128 ≡ first = omega arith in
      let remainder : (first * 128 + count) % 128 ≡ count = omega arith in
      let whole : length (take at work) ≡ at = length-take-le at work (omega arith) in
      held-set-states text work at n fits k from to (first * 128 + count + 1)
      ∙ rw (add-one (first * 128 + count), quotient, remainder, whole, range_front text work at first at (omega arith), e, names-front text work at first i l h)
