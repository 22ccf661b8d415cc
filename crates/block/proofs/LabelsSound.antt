-- Labels that are read: what holds of the names of words holds of them, and state labels are at most as many as symbols. Assumes nothing.
use Prim.Native.Nat.{ℕ, suc, ◌-◌, ◌≤◌}
use Rattle.block.proofs.NamesSound.{Names, need-named}
use Rattle.block.proofs.OutcomeLaws.{then-done, pick-else, pick-when, pick-either, refused-done, done_inj, All, all_one, all_set, all-at, all_replicate, Opt, fold-keeps}
use Rattle.block.specs.Labels.{Labelled, unlabelled, LabelCommand, label_each, char_labels, Entry, first, next, numbered, labelled, states, Entries, at, character, with_label, with_states, begin_states, entry_number, entry_begins, entry_label, entry_states, state_label, entry_turn, entry_end, label_entries, label_command, apply_labels}
use Rattle.block.specs.Outcome.{Outcome, done, then, fold, need}
use Rattle.block.specs.declared.kinds.Labelling.{Labelling}
use Rattle.lexer.specs.Base.{given}
use Rattle.lexer.specs.Words.{Numbered, punct, label, number}
use Rattle.lexer.specs.declared.refusal.Refusal.{Refusal}
use borrow.Author.Tests.{ltb-false}
use lib.Dec.{eqb, ltb, leb}
use lib.ListN.{length, get_or, replicate, length-set, length-replicate}
use mathlib.Core.Bool.{◌&&◌}
use mathlib.Core.List.{List, [], ◌∷◌, ◌++◌}
use mathlib.Core.Option.{some}
use mathlib.Core.Path.{◌≡◌, refl, ap, ◌∙◌}

-- State labels, of each of which something holds, and at most so many.
pub record States (N : List ℕ → Type 0) (count : ℕ) (s : List (List ℕ)) : Type 0 where
  pub each : All N s
  pub few : length s ≤ count

-- What is labelled of a character: something holds of its label and of its state labels, if there are any.
pub record Labels (N : List ℕ → Type 0) (count : ℕ) (c : Labelled) : Type 0 where
  pub label : Opt N c.label
  pub states : Opt (States N count) c.states

none-labels : (N : List ℕ → Type 0) (count : ℕ) → Labels N count unlabelled
unfolding unlabelled
none-labels N count = record { label = tt; states = tt }

-- So many characters, each labelled so.
pub record LabellingOf (N : List ℕ → Type 0) (count size : ℕ) (cs : List Labelled) : Type 0 where
  pub each : All (Labels N count) cs
  pub sized : length cs ≡ size

-- A label command of such words.
abbrev pub OfWords : (Numbered → Type 0) → LabelCommand → Type 0
OfWords Q c = All Q c.words

-- What holds of the names of the words holds of the labels.
module _ (N : List ℕ → Type 0) (Q : Numbered → Type 0) (name : Names Q N) (count size : ℕ) where
  label-one : (c : Labelled) (n : List ℕ) → Labels N count c → N n → Labels N count (record { label = some n; states = c.states })
  label-one c n p s = record { label = s; states = p.states }

  each-labels : (cs : List Labelled) (ws : List Numbered) (ds : List Labelled) → All (Labels N count) cs → All Q ws → label_each cs ws ≡ done ds
      → All (Labels N count) ds × (length ds ≡ length cs)
  unfolding label_each
  each-labels [] ws ds p c h = rw (← done_inj h) (tt, refl)
  each-labels (x ∷ cs) [] ds p c h = rw (← done_inj h) (p, refl)
  each-labels (x ∷ cs) (w ∷ ws) ds p c h =
      let e = pick-else (given x.label) Refusal.LabelEntry w.index _ ds h in
      let n = then-done (need (label w) Refusal.NotName w.index) _ ds e.1 in
      let m = then-done (label_each cs ws) _ ds n.2 in
      let k = each-labels cs ws m.0 p.1 c.1 m.1 in
      rw (← done_inj m.2) ((label-one x n.0 p.0 (need-named N Q name w w.index n.0 c.0 n.1), k.0), ap suc k.1)

  char-labelled : (head : ℕ) (ws : List Numbered) (cs ds : List Labelled) → LabellingOf N count size cs → All Q ws → char_labels head ws cs ≡ done ds
      → LabellingOf N count size ds
  unfolding char_labels
  char-labelled head ws cs ds p c h =
      let e = pick-when (eqb (length ws) (length cs)) Refusal.Count head (label_each cs ws) ds h in
      let k = each-labels cs ws ds p.each c e.1 in
      record { each = k.0; sized = k.1 ∙ p.sized }

  with-label-labelled : (k : ℕ) (n : List ℕ) (cs : List Labelled) → LabellingOf N count size cs → N n → LabellingOf N count size (with_label k n cs)
  unfolding with_label character
  with-label-labelled k n cs p s =
      record {
        each = all_set (Labels N count) cs (k - 1) _ p.each (label-one (get_or cs (k - 1) unlabelled) n (all-at (Labels N count) cs (k - 1) unlabelled p.each (none-labels N count)) s);
        sized = length-set cs (k - 1) _ ∙ p.sized;
      }

  with-states-labelled : (k : ℕ) (s : List (List ℕ)) (cs : List Labelled) → LabellingOf N count size cs → States N count s → LabellingOf N count size (with_states k s cs)
  unfolding with_states character
  with-states-labelled k s cs p g =
      let old = all-at (Labels N count) cs (k - 1) unlabelled p.each (none-labels N count) in
      record {
        each = all_set (Labels N count) cs (k - 1) _ p.each (record { label = old.label; states = g });
        sized = length-set cs (k - 1) _ ∙ p.sized;
      }

  -- The characters so far, and the state labels of an open entry.
  abbrev Open : Entry → Type 0
  Open first = Unit {0}
  Open next = Unit {0}
  Open (numbered k i) = Unit {0}
  Open (labelled k i) = Unit {0}
  Open (states k i s) = All N s

  record Entered (e : Entries) : Type 0 where
    labels : LabellingOf N count size e.characters
    entry : Open e.entry

  entered : (cs : List Labelled) (e : Entry) (t : Entries) → LabellingOf N count size cs → Open e → done (at cs e) ≡ done t → Entered t
  unfolding at
  entered cs e t p q h = rw (← done_inj h) (record { labels = p; entry = q })

  begin-entered : (cs : List Labelled) (k i : ℕ) (t : Entries) → LabellingOf N count size cs → begin_states cs k i ≡ done t → Entered t
  unfolding begin_states
  begin-entered cs k i t p h = entered cs (states k i []) t p tt (pick-else (given (character k cs).states) Refusal.LabelEntry i _ t h).1

  number-entered : (l : Labelling) (cs : List Labelled) (w : Numbered) (k : ℕ) (t : Entries) → LabellingOf N count size cs → entry_number l cs w k ≡ done t → Entered t
  unfolding entry_number
  number-entered Labelling.CharLabels cs w k t p h = entered cs (numbered k w.index) t p tt h
  number-entered Labelling.CharStateLabels cs w k t p h = entered cs (numbered k w.index) t p tt h
  number-entered Labelling.StateLabels cs w k t p h = begin-entered cs k w.index t p h

  begins-entered : (c : LabelCommand) (cs : List Labelled) (w : Numbered) (t : Entries) → LabellingOf N count size cs → entry_begins c cs w ≡ done t → Entered t
  unfolding entry_begins
  begins-entered c cs w t p h =
      let k = number w in
      let a = pick-else (punct 44 w) Refusal.LabelEntry c.head _ t h in
      number-entered c.what cs w _ t p (pick-when (leb 1 k && leb k (length cs)) Refusal.LabelEntry w.index _ t a.1).1

  label-entered : (cs : List Labelled) (k i : ℕ) (w : Numbered) (t : Entries) → LabellingOf N count size cs → Q w → entry_label cs k i w ≡ done t → Entered t
  unfolding entry_label
  label-entered cs k i w t p c h =
      let e = pick-else (given (character k cs).label) Refusal.LabelEntry i _ t h in
      let n = then-done (need (label w) Refusal.NotName w.index) _ t e.1 in
      entered (with_label k n.0 cs) (labelled k i) t (with-label-labelled k n.0 cs p (need-named N Q name w w.index n.0 c n.1)) tt n.2

  states-labelled : (cs : List Labelled) (k i : ℕ) (s : List (List ℕ)) (ds : List Labelled) → LabellingOf N count size cs → All N s
      → entry_states count cs k i s ≡ done ds → LabellingOf N count size ds
  unfolding entry_states
  states-labelled cs k i s ds p q h =
      let e = pick-else (ltb count (length s)) Refusal.LabelEntry i (done (with_states k s cs)) ds h in
      rw (← done_inj e.1) (with-states-labelled k s cs p (record { each = q; few = ltb-false count (length s) e.0 }))

  state-entered : (cs : List Labelled) (k i : ℕ) (s : List (List ℕ)) (w : Numbered) (t : Entries) → LabellingOf N count size cs → All N s → Q w
      → state_label cs k i s w ≡ done t → Entered t
  unfolding state_label
  state-entered cs k i s w t p q c h =
      let n = then-done (need (label w) Refusal.NotName w.index) _ t h in
      entered cs (states k i (s ++ (n.0 ∷ []))) t p (all_one N s n.0 q (need-named N Q name w w.index n.0 c n.1)) n.2

  turn-entered : (c : LabelCommand) (cs : List Labelled) (e : Entry) (w : Numbered) (t : Entries) → LabellingOf N count size cs → Open e → Q w
      → entry_turn count c cs e w ≡ done t → Entered t
  unfolding entry_turn
  turn-entered c cs first w t p o q h = begins-entered c cs w t p h
  turn-entered c cs next w t p o q h = begins-entered c cs w t p h
  turn-entered c cs (numbered k i) w t p o q h =
      pick-either (punct 44 w) _ _ t (entered cs next t p tt) (pick-either (punct 47 w) _ _ t (begin-entered cs k i t p) (label-entered cs k i w t p q)) h
  turn-entered c cs (labelled k i) w t p o q h =
      pick-either (punct 44 w) _ _ t (entered cs next t p tt) (pick-either (punct 47 w) _ _ t (begin-entered cs k i t p) (refused-done Refusal.LabelEntry w.index t)) h
  turn-entered c cs (states k i s) w t p o q h = pick-either (punct 44 w) _ _ t ended (state-entered cs k i s w t p o q) h
    where
      ended : then (entry_states count cs k i s) (λ ds. done (at ds next)) ≡ done t → Entered t
      ended e =
          let d = then-done (entry_states count cs k i s) (λ ds. done (at ds next)) t e in
          entered d.0 next t (states-labelled cs k i s d.0 p o d.1) tt d.2

  end-labelled : (c : LabelCommand) (cs : List Labelled) (e : Entry) (ds : List Labelled) → LabellingOf N count size cs → Open e
      → entry_end count c cs e ≡ done ds → LabellingOf N count size ds
  unfolding entry_end
  end-labelled c cs first ds p o h = refused-done Refusal.LabelEntry c.head ds h
  end-labelled c cs next ds p o h = rw (← done_inj h) p
  end-labelled c cs (numbered k i) ds p o h = rw (← done_inj h) p
  end-labelled c cs (labelled k i) ds p o h = rw (← done_inj h) p
  end-labelled c cs (states k i s) ds p o h = states-labelled cs k i s ds p o h

  entries-labelled : (c : LabelCommand) (cs ds : List Labelled) → LabellingOf N count size cs → All Q c.words → label_entries count c cs ≡ done ds
      → LabellingOf N count size ds
  unfolding label_entries at
  entries-labelled c cs ds p q h =
      let turn : Entries → Numbered → Outcome Entries = λ e w. entry_turn count c e.characters e.entry w in
      let e = then-done (fold turn (at cs first) c.words) (λ e. entry_end count c e.characters e.entry) ds h in
      let k = fold-keeps Entered Q turn (λ s w t p q. turn-entered c s.characters s.entry w t p.labels p.entry q) (at cs first) c.words e.0 (record { labels = p; entry = tt }) q e.1 in
      end-labelled c e.0.characters e.0.entry ds k.labels k.entry e.2

  command-labelled : (l : Labelling) (c : LabelCommand) (cs ds : List Labelled) → LabellingOf N count size cs → All Q c.words
      → label_command count l c cs ≡ done ds → LabellingOf N count size ds
  unfolding label_command
  command-labelled Labelling.CharLabels c cs ds p q h = char-labelled c.head c.words cs ds p q h
  command-labelled Labelling.StateLabels c cs ds p q h = entries-labelled c cs ds p q h
  command-labelled Labelling.CharStateLabels c cs ds p q h = entries-labelled c cs ds p q h

  pub labels-labelled : (commands : List LabelCommand) (cs : List Labelled) → All (OfWords Q) commands → apply_labels count size commands ≡ done cs → LabellingOf N count size cs
  unfolding apply_labels
  labels-labelled commands cs q h =
      fold-keeps (LabellingOf N count size) (OfWords Q) (λ ds c. label_command count c.what c ds) (λ ds c es p q. command-labelled c.what c ds es p q) (replicate size unlabelled) commands cs
      (record { each = all_replicate (Labels N count) size unlabelled (none-labels N count); sized = length-replicate size unlabelled }) q h
