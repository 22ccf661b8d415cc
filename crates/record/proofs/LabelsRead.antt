-- CHARSTATELABELS of a written form is read as the labels of its characters. Assumes nothing.
use Prim.Native.Nat.{ℕ, suc, ◌-◌, ◌≤◌}
use Rattle.block.specs.Commands.{up_to_end, words}
use Rattle.block.specs.Labels as L
use Rattle.block.specs.Labels.{Labelled, unlabelled, LabelCommand, Entry, Entries, entry_turn, entry_end, entry_begins, begin_states, character}
use Rattle.block.specs.Outcome.{Outcome, done, then, fold}
use Rattle.block.specs.Reading.{Character}
use Rattle.block.specs.declared.kinds.Labelling.{Labelling}
use Rattle.lexer.proofs.Basics.{and_left, and_right}
use Rattle.lexer.specs.Base.{is_empty, given}
use Rattle.lexer.specs.Tokens.{Token}
use Rattle.lexer.specs.Words as W
use Rattle.lexer.specs.Words.{Numbered, numbered, largest}
use Rattle.record.proofs.CommandLaws.{at, words_from}
use Rattle.record.proofs.DecimalLaws.{positive-decimal}
use Rattle.record.proofs.FormTokens.{word, mark, label_tokens, each_tokens, states_tokens}
use Rattle.record.proofs.NameLaws.{name-label}
use Rattle.record.specs.Decimal.{decimal}
use Rattle.block.specs.Sound.{sound_name, sound_names, sound_label}
use borrow.Author.Tests.{leb-true, le-leb, le-ltb}
use lib.Dec.{leb, ltb}
use lib.ListN.{length}
use lib.Seq.{set_at, get_or_at}
use mathlib.Core.Bool.{true, false}
use mathlib.Core.List.{List, [], ◌∷◌, ◌++◌, append-nil, append_assoc}
use mathlib.Core.Option.{Option, none, some}
use mathlib.Core.Path.{◌≡◌, refl}
use native.Mathlib.Omega.{arith}

module _ {A : Type 0} where
  -- a list that is there if it is not empty
  unfoldable pub if_any : List A → Option (List A)
  if_any [] = none
  if_any (a ∷ r) = some (a ∷ r)

-- What is labelled of a character.
unfoldable pub labels_of : List Character → List Labelled
labels_of [] = []
labels_of (c ∷ r) = record { label = if_any c.label; states = if_any c.states } ∷ labels_of r

-- From a state the words up to `;` give these labels.
pub record Labels (count : ℕ) (c : LabelCommand) (cs : List Labelled) (e : Entry) (ts : List Token) (result : List Labelled) : Type 0 where
  pub given_labels : (i : ℕ)
      → then (fold (λ x w. entry_turn count c x.characters x.entry w) (L.at cs e) (words (up_to_end (numbered i ts)))) (λ x. entry_end count c x.characters x.entry) ≡ done result

-- An entry that a comma or the end turns into these labels.
pub record Ending (count : ℕ) (c : LabelCommand) (cs : List Labelled) (e : Entry) (ds : List Labelled) : Type 0 where
  pub by-comma : (i : ℕ) → entry_turn count c cs e (at i (mark 44)) ≡ done (L.at ds L.next)
  pub by_end : entry_end count c cs e ≡ done ds

-- The character at the front of those not labelled yet.
module _ (p : List Labelled) (x : Labelled) (q : List Labelled) (k : ℕ) (here : k ≡ suc (length p)) where
  character-here : character k (p ++ (x ∷ q)) ≡ x
  unfolding character
  character-here = get_or_at p x q unlabelled (k - 1) (omega arith)

  label-here : (n : List ℕ) → L.with_label k n (p ++ (x ∷ q)) ≡ p ++ (record { label = some n; states = x.states } ∷ q)
  unfolding L.with_label
  label-here n = rw character-here (set_at p x q (record { label = some n; states = x.states }) (k - 1) (omega arith))

  states-here : (s : List (List ℕ)) → L.with_states k s (p ++ (x ∷ q)) ≡ p ++ (record { label = x.label; states = some s } ∷ q)
  unfolding L.with_states
  states-here s = rw character-here (set_at p x q (record { label = x.label; states = some s }) (k - 1) (omega arith))

-- To unfold it opens what the turns of CHARSTATELABELS compute by.
turn_of : ℕ → LabelCommand → Entries → Token → Outcome Entries
unfolding words_from given is_empty L.at L.unlabelled entry_turn entry_end entry_begins L.entry_number L.entry_label L.begin_states L.entry_states L.state_label
turn_of count c e t = entry_turn count c e.characters e.entry (at 0 t)

abbrev pub state_labels : ℕ → List Numbered → LabelCommand
state_labels h ws = record { what = Labelling.CharStateLabels; head = h; words = ws }

module _ (count h : ℕ) (ws : List Numbered) {result : List Labelled} where
  pub number-labels : (k : ℕ) (cs : List Labelled) (e : Entry) (ts : List Token)
      → ((w : Numbered) → entry_turn count (state_labels h ws) cs e w ≡ entry_begins (state_labels h ws) cs w) → 1 ≤ k → k ≤ length cs → k ≤ largest
      → ((i : ℕ) → Labels count (state_labels h ws) cs (L.numbered k i) ts result)
      → Labels count (state_labels h ws) cs e (word (decimal k) ∷ ts) result
  unfolding words_from L.at entry_begins L.entry_number W.number
  number-labels k cs e ts begins one most fits r =
      record { given_labels = λ i. rw (begins (at i (word (decimal k))), positive-decimal k one fits, le-leb 1 k one, le-leb k (length cs) most) ((r i).given_labels (suc i)) }

  -- State labels, behind `/`.
  each-labels : (k i : ℕ) (cs : List Labelled) (s t : List (List ℕ)) (ts : List Token) → sound_names s ≡ true
      → Labels count (state_labels h ws) cs (L.states k i (t ++ s)) ts result
      → Labels count (state_labels h ws) cs (L.states k i t) (each_tokens s ts) result
  unfolding turn_of each_tokens sound_names
  each-labels k i cs [] t ts n r = rw append-nil at r
  each-labels k i cs (a ∷ s) t ts n r =
      let more : Labels count (state_labels h ws) cs (L.states k i (t ++ (a ∷ []))) (each_tokens s ts) result =
      each-labels k i cs s (t ++ (a ∷ [])) ts (and_right (sound_name a) (sound_names s) n) (rw append_assoc r)
      in
      record { given_labels = λ j. rw (name-label j a (and_left (sound_name a) (sound_names s) n)) (more.given_labels (suc j)) }

-- Behind an entry's number or label: `/` begins its state labels.
record Behind (count : ℕ) (c : LabelCommand) (cs : List Labelled) (k i : ℕ) (e : Entry) : Type 0 where
  ending : Ending count c cs e cs
  slash : (j : ℕ) → entry_turn count c cs e (at j (mark 47)) ≡ begin_states cs k i

module _ (count : ℕ) (c : LabelCommand) (cs : List Labelled) (k i : ℕ) where
  behind-number : Behind count c cs k i (L.numbered k i)
  unfolding turn_of
  behind-number = record { ending = record { by-comma = λ j. refl; by_end = refl }; slash = λ j. refl }

  behind-label : Behind count c cs k i (L.labelled k i)
  unfolding turn_of
  behind-label = record { ending = record { by-comma = λ j. refl; by_end = refl }; slash = λ j. refl }

  states-ending : (s : List (List ℕ)) → leb (length s) count ≡ true → Ending count c cs (L.states k i s) (L.with_states k s cs)
  unfolding turn_of
  states-ending s few =
      let enough : ltb count (length s) ≡ false = le-ltb count (length s) (leb-true (length s) count few) in
      record { by-comma = λ j. rw enough refl; by_end = rw enough refl }

-- A character with a label or none, and no states yet, among the others; and one that is done.
abbrev pub front : List Labelled → List ℕ → List Labelled → List Labelled
front p l q = p ++ (record { label = if_any l; states = none } ∷ q)

abbrev pub filled : List Labelled → List ℕ → List (List ℕ) → List Labelled → List Labelled
filled p l s q = p ++ (record { label = if_any l; states = if_any s } ∷ q)

module _ (count h : ℕ) (ws : List Numbered) (p : List Labelled) (q : List Labelled) (k : ℕ) (place : k ≡ suc (length p)) {result : List Labelled} where
  -- An entry's state labels, if any, and what is behind it.
  states-labels : (l : List ℕ) (s : List (List ℕ)) (i : ℕ) (e : Entry) (ts : List Token) → Behind count (state_labels h ws) (front p l q) k i e
      → sound_names s ≡ true → leb (length s) count ≡ true
      → ((ds : List Labelled) (f : Entry) → Ending count (state_labels h ws) ds f (filled p l s q) → Labels count (state_labels h ws) ds f ts result)
      → Labels count (state_labels h ws) (front p l q) e (states_tokens s ts) result
  unfolding words_from states_tokens if_any begin_states L.at given
  states-labels l [] i e ts b n few r = r (front p l q) e b.ending
  states-labels l (a ∷ s) i e ts b n few r =
      let ended : Ending count (state_labels h ws) (front p l q) (L.states k i (a ∷ s)) (filled p l (a ∷ s) q) =
      rw (states-here p (record { label = if_any l; states = none }) q k place (a ∷ s)) at (states-ending count (state_labels h ws) (front p l q) k i (a ∷ s) few)
      in
      let all : Labels count (state_labels h ws) (front p l q) (L.states k i []) (each_tokens (a ∷ s) ts) result =
      each-labels count h ws k i (front p l q) (a ∷ s) [] ts n (r (front p l q) (L.states k i (a ∷ s)) ended)
      in
      record { given_labels = λ j. rw (b.slash j, character-here p (record { label = if_any l; states = none }) q k place) (all.given_labels (suc j)) }

  -- An entry behind its number.
  pub entry-labels : (l : List ℕ) (s : List (List ℕ)) (i : ℕ) (ts : List Token) → sound_label l ≡ true → sound_names s ≡ true
      → leb (length s) count ≡ true
      → ((ds : List Labelled) (f : Entry) → Ending count (state_labels h ws) ds f (filled p l s q) → Labels count (state_labels h ws) ds f ts result)
      → Labels count (state_labels h ws) (front p [] q) (L.numbered k i) (label_tokens l (states_tokens s ts)) result
  unfolding label_tokens sound_label if_any turn_of
  entry-labels [] s i ts w n few r = states-labels [] s i (L.numbered k i) ts (behind-number count (state_labels h ws) (front p [] q) k i) n few r
  entry-labels (b ∷ l) s i ts w n few r =
      let more : Labels count (state_labels h ws) (front p (b ∷ l) q) (L.labelled k i) (states_tokens s ts) result =
      states-labels (b ∷ l) s i (L.labelled k i) ts (behind-label count (state_labels h ws) (front p (b ∷ l) q) k i) n few r
      in
      record {
        given_labels =
            λ j.
            rw (character-here p (record { label = none; states = none }) q k place, name-label j (b ∷ l) w, label-here p (record { label = none; states = none }) q k place (b ∷ l))
            (more.given_labels (suc j));
      }
