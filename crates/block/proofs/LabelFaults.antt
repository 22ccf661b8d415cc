-- What the label commands refuse, and which of their words they name. Assumes nothing.
use Prim.Native.Nat.{ℕ}
use Rattle.block.proofs.Faulted.{Faults, Ends, gives, refuses, either, both, needed, then-ends, fold-ends, reached-ends}
use Rattle.block.proofs.LabelsApplied.{labels-applied}
use Rattle.block.proofs.OutcomeLaws.{All, Any, all_right}
use Rattle.block.specs.Labels.{Labelled, unlabelled, LabelCommand, label_each, char_labels, Entry, first, next, numbered, labelled, states, Entries, at, character, begin_states, entry_number, entry_begins, entry_label, entry_states, state_label, entry_turn, entry_end, label_entries, label_command, apply_labels}
use Rattle.block.specs.Outcome.{done}
use Rattle.block.specs.declared.kinds.Labelling.{Labelling}
use Rattle.lexer.specs.Base.{byte, given}
use Rattle.lexer.specs.Words.{Numbered, label, number, punct}
use Rattle.lexer.specs.declared.refusal.Refusal.{Refusal}
use lib.Dec.{ltb, leb, eqb}
use lib.ListN.{length, replicate}
use mathlib.Core.Bool.{false, ◌&&◌}
use mathlib.Core.List.{List, [], ◌∷◌}
use mathlib.Core.Option.{none}
use mathlib.Core.Path.{◌≡◌, refl}

-- A word of a label command: 26 at any, 17 at one that is no name.
pub record LabelFaults (R : Faults) (w : Numbered) : Type 0 where
  pub entry : R Refusal.LabelEntry w.index
  pub unnamed : label w ≡ none → R Refusal.NotName w.index

-- A label command: 26 at its first word, and 16 there if it is CHARLABELS and has more or fewer words than there are characters. So many are
-- there where the first says so.
pub record LabellingFaults (N : ℕ → Type 0) (R : Faults) (c : LabelCommand) : Type 0 where
  pub count : (n : ℕ) → N n → c.what ≡ Labelling.CharLabels → eqb (length c.words) n ≡ false → R Refusal.Count c.head
  pub entry : R Refusal.LabelEntry c.head
  pub each : All (LabelFaults R) c.words

module _ (N : ℕ → Type 0) (R : Faults) where
  each-faults : (cs : List Labelled) (ws : List Numbered) → All (LabelFaults R) ws → Ends R Any (label_each cs ws)
  unfolding label_each
  each-faults [] ws q = gives tt
  each-faults (c ∷ cs) [] q = gives tt
  each-faults (c ∷ cs) (w ∷ ws) q =
      both R (given c.label) (refuses q.0.entry)
      (then-ends R {P = Any} (needed R (label w) Refusal.NotName w.index q.0.unnamed (λ n e. tt))
      (λ n e. then-ends R (each-faults cs ws q.1) (λ r k. gives tt)))

  -- An entry may be refused at the number of its character.
  abbrev Begun : Entry → Type 0
  Begun first = Unit {0}
  Begun next = Unit {0}
  Begun (numbered k i) = R Refusal.LabelEntry i
  Begun (labelled k i) = R Refusal.LabelEntry i
  Begun (states k i s) = R Refusal.LabelEntry i

  abbrev Entered : Entries → Type 0
  Entered e = Begun e.entry

  states-faults : (cs : List Labelled) (k i : ℕ) → R Refusal.LabelEntry i → Ends R Entered (begin_states cs k i)
  unfolding begin_states at
  states-faults cs k i r = both R (given (character k cs).states) (refuses r) (gives r)

  number-faults : (l : Labelling) (cs : List Labelled) (w : Numbered) (k : ℕ) → LabelFaults R w → Ends R Entered (entry_number l cs w k)
  unfolding entry_number at
  number-faults Labelling.CharLabels cs w k q = gives q.entry
  number-faults Labelling.CharStateLabels cs w k q = gives q.entry
  number-faults Labelling.StateLabels cs w k q = states-faults cs k w.index q.entry

  module _ (count : ℕ) (c : LabelCommand) (h : LabellingFaults N R c) where
    begins-faults : (cs : List Labelled) (w : Numbered) → LabelFaults R w → Ends R Entered (entry_begins c cs w)
    unfolding entry_begins
    begins-faults cs w q =
        both R (punct (byte ",") w) (refuses h.entry)
        (both R (leb 1 (number w) && leb (number w) (length cs)) (number-faults c.what cs w (number w) q) (refuses q.entry))

    ended-faults : (cs : List Labelled) (k i : ℕ) (s : List (List ℕ)) → R Refusal.LabelEntry i → Ends R Any (entry_states count cs k i s)
    unfolding entry_states
    ended-faults cs k i s r = both R (ltb count (length s)) (refuses r) (gives tt)

    turn-faults : (cs : List Labelled) (e : Entry) (w : Numbered) → Begun e → LabelFaults R w → Ends R Entered (entry_turn count c cs e w)
    unfolding entry_turn entry_label state_label at
    turn-faults cs first w p q = begins-faults cs w q
    turn-faults cs next w p q = begins-faults cs w q
    turn-faults cs (numbered k i) w p q =
        both R (punct (byte ",") w) (gives tt)
        (both R (punct (byte "/") w) (states-faults cs k i p)
        (both R (given (character k cs).label) (refuses p)
        (then-ends R {P = Any} (needed R (label w) Refusal.NotName w.index q.unnamed (λ n e. tt)) (λ n e. gives p))))
    turn-faults cs (labelled k i) w p q =
        both R (punct (byte ",") w) (gives tt) (both R (punct (byte "/") w) (states-faults cs k i p) (refuses q.entry))
    turn-faults cs (states k i s) w p q =
        both R (punct (byte ",") w) (then-ends R (ended-faults cs k i s p) (λ ds e. gives tt))
        (then-ends R {P = Any} (needed R (label w) Refusal.NotName w.index q.unnamed (λ n e. tt)) (λ n e. gives p))

    end-faults : (cs : List Labelled) (e : Entry) → Begun e → Ends R Any (entry_end count c cs e)
    unfolding entry_end
    end-faults cs first p = refuses h.entry
    end-faults cs next p = gives tt
    end-faults cs (numbered k i) p = gives tt
    end-faults cs (labelled k i) p = gives tt
    end-faults cs (states k i s) p = ended-faults cs k i s p

    entries-faults : (cs : List Labelled) → Ends R Any (label_entries count c cs)
    unfolding label_entries at
    entries-faults cs =
        then-ends R (fold-ends R Entered (LabelFaults R) (λ e w. entry_turn count c e.characters e.entry w) (λ e w p q. turn-faults e.characters e.entry w p q) (at cs first) c.words tt h.each)
        (λ e p. end-faults e.characters e.entry p)

    command-faults : (l : Labelling) → c.what ≡ l → (cs : List Labelled) → N (length cs) → Ends R Any (label_command count l c cs)
    unfolding label_command char_labels
    command-faults Labelling.CharLabels e cs n =
        either R (eqb (length c.words) (length cs)) (λ f. each-faults cs c.words h.each) (λ f. refuses (h.count (length cs) n e f))
    command-faults Labelling.StateLabels e cs n = entries-faults cs
    command-faults Labelling.CharStateLabels e cs n = entries-faults cs

  pub labels-faults : (count characters : ℕ) (commands : List LabelCommand) → N characters → All (LabellingFaults N R) commands
      → Ends R (λ ls. Any ls × (apply_labels count characters commands ≡ done ls)) (apply_labels count characters commands)
  unfolding apply_labels
  labels-faults count characters commands n q =
      reached-ends R Any (λ cs c. label_command count c.what c cs) (replicate characters unlabelled) commands
      (λ before c after cs e r p. command-faults count c (all_right (LabellingFaults N R) before (c ∷ after) (rw e at q)).0 c.what refl cs (rw (labels-applied count characters before cs r).0 n)) tt
