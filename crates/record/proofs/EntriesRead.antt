-- The entries of CHARSTATELABELS of a written form are read, one after another. Assumes nothing.
use Prim.Native.Nat.{ℕ, suc, ◌+◌, ◌≤◌}
use Rattle.block.specs.Labels as L
use Rattle.block.specs.Labels.{Labelled, unlabelled, Entry, entry_turn, entry_begins}
use Rattle.block.specs.Outcome.{done}
use Rattle.block.specs.Reading.{Character}
use Rattle.lexer.proofs.Basics.{and_left, and_right, or_left, or_right, by-test}
use Rattle.lexer.specs.Base.{is_empty}
use Rattle.lexer.specs.Tokens.{Token}
use Rattle.lexer.specs.Words.{Numbered, largest}
use Rattle.record.proofs.CommandLaws.{Passes, there, words_from}
use Rattle.record.proofs.FormTokens.{word, mark, name, label_tokens, each_tokens, states_tokens, entry_tokens, comma_tokens, entries_tokens}
use Rattle.record.proofs.LabelsRead.{Labels, Ending, state_labels, if_any, labels_of, number-labels, entry-labels}
use Rattle.record.specs.Decimal.{decimal}
use Rattle.record.specs.Form.{any_label, labelled}
use Rattle.block.specs.Sound.{sound_names, sound_label, sound_labels, few_states}
use lib.Dec.{leb}
use lib.ListN.{length, replicate, length-append}
use mathlib.Core.Bool.{Bool, true, false, ◌&&◌, not, false≢true, true≢false}
use mathlib.Core.List.{List, [], ◌∷◌, ◌++◌, append_assoc}
use mathlib.Core.Path.{◌≡◌, refl, ap}
use native.Mathlib.Omega.{arith}

-- What is labelled of one character.
abbrev labels_one : Character → Labelled
labels_one c = record { label = if_any c.label; states = if_any c.states }

empty-nil : {X : Type 0} (l : List X) → not (is_empty l) ≡ false → l ≡ []
unfolding is_empty
empty-nil [] h = refl
empty-nil (x ∷ l) h = absurd (true≢false h)

no_label : (c : Character) → any_label c ≡ false → labels_one c ≡ unlabelled
unfolding any_label unlabelled if_any
no_label c h =
    rw (empty-nil c.label (or_left (not (is_empty c.label)) (not (is_empty c.states)) h), empty-nil c.states (or_right (not (is_empty c.label)) (not (is_empty c.states)) h))
    refl

labels-rest : (c : Character) (r : List Character) → sound_labels (c ∷ r) ≡ true → sound_labels r ≡ true
unfolding sound_labels
labels-rest c r sound = and_right (sound_label c.label && sound_names c.states) (sound_labels r) sound

few-rest : (count : ℕ) (c : Character) (r : List Character) → few_states count (c ∷ r) ≡ true → few_states count r ≡ true
unfolding few_states
few-rest count c r few = and_right (leb (length c.states) count) (few_states count r) few

module _ (count h : ℕ) (ws : List Numbered) where
  -- One entry, from where one may begin.
  entry_read : (c : Character) (r : List Character) (p : List Labelled) (k : ℕ) (e : Entry) (ts : List Token) {result : List Labelled}
      → k ≡ suc (length p) → k ≤ largest → sound_labels (c ∷ r) ≡ true → few_states count (c ∷ r) ≡ true
      → ((w : Numbered) → entry_turn count (state_labels h ws) (p ++ replicate (suc (length r)) unlabelled) e w ≡ entry_begins (state_labels h ws) (p ++ replicate (suc (length r)) unlabelled) w)
      → ((ds : List Labelled) (f : Entry) → Ending count (state_labels h ws) ds f ((p ++ (labels_one c ∷ [])) ++ replicate (length r) unlabelled) → Labels count (state_labels h ws) ds f ts result)
      → Labels count (state_labels h ws) (p ++ replicate (suc (length r)) unlabelled) e (entry_tokens k c ts) result
  unfolding entry_tokens unlabelled sound_labels few_states if_any
  entry_read c r p k e ts place most sound few begins more =
      let cs : List Labelled = p ++ replicate (suc (length r)) unlabelled in
      let names : sound_label c.label && sound_names c.states ≡ true = and_left (sound_label c.label && sound_names c.states) (sound_labels r) sound in
      number-labels count h ws k cs e (label_tokens c.label (states_tokens c.states ts)) begins (omega arith) (omega (arith, length-append p (replicate (suc (length r)) unlabelled))) most
      (λ i.
      entry-labels count h ws p (replicate (length r) unlabelled) k place c.label c.states i ts
      (and_left (sound_label c.label) (sound_names c.states) names)
      (and_right (sound_label c.label) (sound_names c.states) names)
      (and_left (leb (length c.states) count) (few_states count r) few)
      (λ ds f b. more ds f (rw append_assoc b)))

  -- The entries behind another: a comma stands before each.
  later-entries : (r : List Character) (p : List Labelled) (k : ℕ) (rest : List Token) → k ≡ suc (length p) → length p + length r ≤ largest
      → sound_labels r ≡ true → few_states count r ≡ true → (cs : List Labelled) (e : Entry)
      → Ending count (state_labels h ws) cs e (p ++ replicate (length r) unlabelled)
      → Labels count (state_labels h ws) cs e (entries_tokens false k r (mark 59 ∷ rest)) (p ++ labels_of r)
  unfolding words_from entries_tokens comma_tokens labels_of L.at entry_turn
  later-entries [] p k rest place most sound few cs e b = record { given_labels = λ i. b.by_end }
  later-entries (c ∷ r) p k rest place most sound few cs e b =
      let behind : List Token = entries_tokens false (suc k) r (mark 59 ∷ rest) in
      let more : (ds : List Labelled) (f : Entry) → Ending count (state_labels h ws) ds f ((p ++ (labels_one c ∷ [])) ++ replicate (length r) unlabelled) → Labels count (state_labels h ws) ds f behind (p ++ (labels_one c ∷ labels_of r)) =
      λ ds f d.
      rw append_assoc at
      (later-entries r (p ++ (labels_one c ∷ [])) (suc k) rest (simp length-append (omega arith)) (simp length-append (omega arith)) (labels-rest c r sound) (few-rest count c r few) ds f d)
      in
      let entry : Labels count (state_labels h ws) (p ++ replicate (suc (length r)) unlabelled) L.next (entry_tokens k c behind) (p ++ (labels_one c ∷ labels_of r)) =
      entry_read c r p k L.next behind place (omega arith) sound few (λ w. refl) more
      in
      by-test (any_label c)
      (λ t. rw t (record { given_labels = λ i. rw (b.by-comma i) (entry.given_labels (suc i)) }))
      (λ f. rw f (more cs e (rw (no_label c f, append_assoc) b)))

  -- All entries; there is one.
  first-entries : (r : List Character) (p : List Labelled) (k : ℕ) (rest : List Token) → k ≡ suc (length p) → length p + length r ≤ largest
      → sound_labels r ≡ true → few_states count r ≡ true → labelled r ≡ true
      → Labels count (state_labels h ws) (p ++ replicate (length r) unlabelled) L.first (entries_tokens true k r (mark 59 ∷ rest)) (p ++ labels_of r)
  unfolding words_from entries_tokens comma_tokens labels_of labelled entry_turn
  first-entries [] p k rest place most sound few some-label = absurd (false≢true some-label)
  first-entries (c ∷ r) p k rest place most sound few some-label =
      let one : (x : Labelled) → suc k ≡ suc (length (p ++ (x ∷ []))) = λ x. simp length-append (omega arith) in
      let all : (x : Labelled) → length (p ++ (x ∷ [])) + length r ≤ largest = λ x. simp length-append (omega arith) in
      let behind : List Token = entries_tokens false (suc k) r (mark 59 ∷ rest) in
      by-test (any_label c)
      (λ t. rw t
      (entry_read c r p k L.first behind place (omega arith) sound few (λ w. refl)
      (λ ds f d. rw append_assoc at (later-entries r (p ++ (labels_one c ∷ [])) (suc k) rest (one (labels_one c)) (all (labels_one c)) (labels-rest c r sound) (few-rest count c r few) ds f d))))
      (λ f. rw (f, no_label c f)
      (simp append_assoc at (first-entries r (p ++ (unlabelled ∷ [])) (suc k) rest (one unlabelled) (all unlabelled) (labels-rest c r sound) (few-rest count c r few) (rw f at some-label))))

-- The whole command.
pub entries-read : (count h i : ℕ) (cs : List Character) (rest : List Token) → length cs ≤ largest → sound_labels cs ≡ true
    → few_states count cs ≡ true → labelled cs ≡ true
    → L.apply_labels count (length cs) (state_labels h (words_from i (entries_tokens true 1 cs (mark 59 ∷ rest))) ∷ []) ≡ done (labels_of cs)
unfolding words_from L.apply_labels L.label_command L.label_entries
entries-read count h i cs rest most sound few some-label =
    rw ((first-entries count h (words_from i (entries_tokens true 1 cs (mark 59 ∷ rest))) cs [] 1 rest refl (omega arith) sound few some-label).given_labels i) refl

-- Where there is no label there is no command.
none-labels : (r : List Character) → labelled r ≡ false → replicate (length r) unlabelled ≡ labels_of r
unfolding labelled labels_of
none-labels [] h = refl
none-labels (c ∷ r) h = rw (no_label c (or_left (any_label c) (labelled r) h), none-labels r (or_right (any_label c) (labelled r) h)) refl

pub nothing-labelled : (count : ℕ) (cs : List Character) → labelled cs ≡ false → L.apply_labels count (length cs) [] ≡ done (labels_of cs)
unfolding words_from L.apply_labels
nothing-labelled count cs h = ap done (none-labels cs h)

-- Entries part no command.
label-passes : (l : List ℕ) {ts rest : List Token} → Passes ts rest → Passes (label_tokens l ts) rest
unfolding words_from label_tokens
label-passes [] p = p
label-passes (b ∷ l) p = there (name (b ∷ l)) refl p

each-passes : (s : List (List ℕ)) {ts rest : List Token} → Passes ts rest → Passes (each_tokens s ts) rest
unfolding words_from each_tokens
each-passes [] p = p
each-passes (a ∷ s) p = there (name a) refl (each-passes s p)

states-passes : (s : List (List ℕ)) {ts rest : List Token} → Passes ts rest → Passes (states_tokens s ts) rest
unfolding words_from states_tokens
states-passes [] p = p
states-passes (a ∷ s) p = there (mark 47) refl (each-passes (a ∷ s) p)

comma-passes : (first : Bool) {ts rest : List Token} → Passes ts rest → Passes (comma_tokens first ts) rest
unfolding words_from comma_tokens
comma-passes true p = p
comma-passes false p = there (mark 44) refl p

pub entries-passes : (first : Bool) (k : ℕ) (cs : List Character) {ts rest : List Token} → Passes ts rest → Passes (entries_tokens first k cs ts) rest
unfolding words_from entries_tokens entry_tokens
entries-passes first k [] p = p
entries-passes first k (c ∷ r) p =
    by-test (any_label c)
    (λ t. rw t (comma-passes first (there (word (decimal k)) refl (label-passes c.label (states-passes c.states (entries-passes false (suc k) r p))))))
    (λ f. rw f (entries-passes first (suc k) r p))
