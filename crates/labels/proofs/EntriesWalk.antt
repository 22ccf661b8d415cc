-- The walk over the entries of STATELABELS and CHARSTATELABELS: labels in work memory and the place in the list are what the definition has in
-- front of the next word. Assumes nothing.
use Prim.Native.Nat.{ℕ, ◌+◌, ◌≤◌, ◌<◌}
use Rattle.block.proofs.WalkLaws.{Walking, walking_start, walking-newline, walking-turn, walking-refused, walking-end, words-last-newline}
use Rattle.block.specs.Commands.{newline, words}
use Rattle.block.specs.Labels.{LabelCommand, first, Entries, at, entry_turn}
use Rattle.block.specs.Outcome.{Outcome, done, refused, fold}
use Rattle.labels.proofs.EachLabelled.{word_kept}
use Rattle.labels.specs.LabelEntries.{entry_of, placed}
use Rattle.labels.specs.LabelSlots.{labels_held}
use Rattle.labels.specs.declared.entries.Entry as code
use Rattle.lexer.proofs.Basics.{by-test}
use Rattle.lexer.proofs.RangeLaws.{range_front}
use Rattle.lexer.specs.Stored.{word_of, range}
use Rattle.lexer.specs.Words.{Numbered}
use Rattle.lexer.specs.declared.refusal.Refusal.{Refusal}
use borrow.Author.Tests.{ltb-true, ltb-false}
use lib.Dec.{ltb}
use lib.ListN.{length, take}
use mathlib.Core.Bool.{true, false}
use mathlib.Core.List.{List}
use mathlib.Core.Path.{◌≡◌, refl, sym, ◌∙◌}
use native.Mathlib.Omega.{arith}

-- A newline leaves the place as it is.
entry-newline : (text work : List ℕ) (n i : ℕ) (e : code.Entry) → placed n i e → newline (word_of text work i) ≡ true → entry_of text work (i + 1) e ≡ entry_of text work i e
unfolding entry_of
entry-newline text work n i code.Entry.First p h = refl
entry-newline text work n i code.Entry.Next p h = refl
entry-newline text work n i (code.Entry.Numbered k j) p h = refl
entry-newline text work n i (code.Entry.Labelled k j) p h = refl
entry-newline text work n i (code.Entry.States k j from) p h = rw (words-last-newline text work from i p.2 h)

-- It stays placed further on.
placed-onward : (n i j : ℕ) (e : code.Entry) → i ≤ j → placed n i e → placed n j e
placed-onward n i j code.Entry.First l p = tt
placed-onward n i j code.Entry.Next l p = tt
placed-onward n i j (code.Entry.Numbered k m) l p = p
placed-onward n i j (code.Entry.Labelled k m) l p = p
placed-onward n i j (code.Entry.States k m from) l p = (p.0, p.1, omega (arith, p.2))

abbrev pub entries_turn : ℕ → LabelCommand → Entries → Numbered → Outcome Entries
entries_turn symbols c e w = entry_turn symbols c e.characters e.entry w

pub record Entering (text : List ℕ) (here n : ℕ) (before : List ℕ) (symbols : ℕ) (c : LabelCommand) (to : ℕ) (whole : Outcome Entries) (work : List ℕ) (e : code.Entry) (i : ℕ) : Type 0 where
  pub size : length work ≡ length before
  pub front : take here work ≡ take here before
  pub place : placed n i e
  pub within : to < i → e ≡ code.Entry.First
  pub walk : Walking (entries_turn symbols c) text (take here before) to whole (at (labels_held text work here n) (entry_of text (take here before) i e)) i

module _ (text : List ℕ) (here n : ℕ) (before : List ℕ) (symbols : ℕ) (c : LabelCommand) (to : ℕ) (inside : to ≤ here) where
  pub entering-start : (from : ℕ) → Entering text here n before symbols c to (fold (entries_turn symbols c) (at (labels_held text before here n) first) (words (range text before from to))) before code.Entry.First from
  unfolding entry_of
  entering-start from =
      record { size = refl; front = refl; place = tt; within = λ l. refl; walk = rw (← range_front text before here from to inside) (walking_start text (take here before) to (at (labels_held text before here n) first) from) }

  module _ {whole : Outcome Entries} (work : List ℕ) (e : code.Entry) (i : ℕ) (k : Entering text here n before symbols c to whole work e i) where
    pub entering-newline : i < to → newline (word_of text work i) ≡ true → Entering text here n before symbols c to whole work e (i + 1)
    entering-newline h l =
        let kept = rw (word_kept text here before work k.front i (omega arith)) at l in
        record {
          size = k.size;
          front = k.front;
          place = placed-onward n i (i + 1) e (omega arith) k.place;
          within = λ u. absurd (omega arith);
          walk = rw (entry-newline text (take here before) n i e k.place kept) (walking-newline text (take here before) to i k.walk h kept);
        }

    module _ (h : i < to) (l : newline (word_of text work i) ≡ false) where
      same : word_of text work i ≡ word_of text (take here before) i
      same = word_kept text here before work k.front i (omega arith)

      pub entering-turn : (after : List ℕ) (f : code.Entry) → length after ≡ length work → take here after ≡ take here work → placed n (i + 1) f
          → done (at (labels_held text after here n) (entry_of text (take here work) (i + 1) f)) ≡ entry_turn symbols c (labels_held text work here n) (entry_of text (take here work) i e) (word_of text work i)
          → Entering text here n before symbols c to whole after f (i + 1)
      unfolding at
      entering-turn after f size front place turned =
          record {
            size = size ∙ k.size;
            front = front ∙ k.front;
            place = place;
            within = λ u. absurd (omega arith);
            walk = walking-turn text (take here before) to i k.walk _ h (rw same at l) (sym (rw (k.front, same) at turned));
          }

      pub entering-refused : (m : Refusal) (j : ℕ) → refused m j ≡ entry_turn symbols c (labels_held text work here n) (entry_of text (take here work) i e) (word_of text work i) → refused m j ≡ whole
      unfolding at
      entering-refused m j turned = walking-refused text (take here before) to i k.walk m j h (rw same at l) (sym (rw (k.front, same) at turned))

    -- the end: in front of the last index
    module _ (h : to ≤ i) where
      pub entering-end : done (at (labels_held text work here n) (entry_of text (take here work) to e)) ≡ whole
      unfolding entry_of
      entering-end = rw (k.front, last) (walking-end text (take here before) to i k.walk h)
        where
          last : entry_of text (take here before) to e ≡ entry_of text (take here before) i e
          last = by-test (ltb to i) (λ t. rw (k.within (ltb-true to i t)) refl) (λ t. let l = ltb-false to i t in let met : i ≡ to = omega arith in rw met refl)
