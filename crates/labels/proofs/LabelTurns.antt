-- What one word more comes to in a label command, case by case. Assumes nothing.
use Prim.Native.Nat.{ℕ, ◌+◌, ◌-◌, ◌*◌, ◌≤◌, ◌<◌}
use Rattle.block.specs.Labels.{Labelled, character, with_label}
use Rattle.block.specs.NamesHeld.{name_of}
use Rattle.block.specs.Outcome.{done, refused, then, need}
use Rattle.labels.proofs.LabelSlotLaws.{character-label, stored-label}
use Rattle.labels.specs.LabelSlots.{label_one, labels_held}
use Rattle.lexer.proofs.LabelLaws.{label-some, label-none}
use Rattle.lexer.specs.Base.{pick, given}
use Rattle.lexer.specs.Stored.{word_of}
use Rattle.lexer.specs.Words.{Numbered, label}
use Rattle.lexer.specs.declared.refusal.Refusal.{Refusal}
use lib.Dec.{eqb}
use lib.ListN.{length, get_or, take, set}
use lib.Seq.{take-set-le}
use mathlib.Core.Bool.{Bool, true, false, not}
use mathlib.Core.List.{List}
use mathlib.Core.Path.{◌≡◌, sym, ap, ◌∙◌}
use native.Mathlib.Omega.{arith}

-- A character's label: it has one, or the word is no name, or it is labelled.
module _ (cs : List Labelled) (k i : ℕ) (w : Numbered) where
  label-twice : given (character k cs).label ≡ true → label_one cs k i w ≡ refused Refusal.LabelEntry i
  unfolding label_one pick
  label-twice h = rw h

  module _ (h : given (character k cs).label ≡ false) where
    label-nameless : given (label w) ≡ false → label_one cs k i w ≡ refused Refusal.NotName w.index
    unfolding label_one pick need then
    label-nameless e = rw (h, label-none w e)

    label-new : given (label w) ≡ true → label_one cs k i w ≡ done (with_label k (name_of w) cs)
    unfolding label_one pick need then name_of
    label-new e = rw (h, label-some w e)

-- The same by the number that work memory holds for the character
module _ (text work : List ℕ) (at n k : ℕ) (from : 1 ≤ k) (to : k ≤ n) (number i : ℕ) where
  pub one-twice : {b : Bool} → b ≡ not (eqb (get_or work (at + (k - 1)) 0) 0) → b ≡ true → refused Refusal.LabelEntry number ≡ label_one (labels_held text work at n) k number (word_of text work i)
  one-twice h e = sym (label-twice (labels_held text work at n) k number (word_of text work i) (character-label text work at n k from to ∙ sym h ∙ e))

  module _ {b : Bool} (h : b ≡ not (eqb (get_or work (at + (k - 1)) 0) 0)) (e : b ≡ false) where
    free : given (character k (labels_held text work at n)).label ≡ false
    free = character-label text work at n k from to ∙ sym h ∙ e

    pub one-nameless : given (label (word_of text work i)) ≡ false → refused Refusal.NotName i ≡ label_one (labels_held text work at n) k number (word_of text work i)
    unfolding word_of
    one-nameless f = sym (label-nameless (labels_held text work at n) k number (word_of text work i) free f)

    pub one-new : (after : List ℕ) → at + 2 * n ≤ length work → i < at → given (label (word_of text work i)) ≡ true → after ≡ set work (at + (k - 1)) (i + 1)
        → (take at after ≡ take at work) × (done (labels_held text after at n) ≡ label_one (labels_held text work at n) k number (word_of text work i))
    one-new after fits l f put = (
      ap (take at) put ∙ take-set-le at work (at + (k - 1)) (i + 1) (omega arith),
      rw (put, stored-label text work at n fits k from to i l) (sym (label-new (labels_held text work at n) k number (word_of text work i) free f)),
    )
