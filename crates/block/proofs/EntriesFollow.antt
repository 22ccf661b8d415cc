-- STATELABELS and CHARSTATELABELS give each character what their entries give, and nothing else. Assumes nothing.
use Prim.Native.Nat.{ℕ, ◌≤◌}
use Rattle.block.proofs.ChunkSound.{some_inj}
use Rattle.block.proofs.EntriesCut.{no-comma-one}
use Rattle.block.proofs.EntryWords.{NameOf, EntryGives, EntriesGive, only-gives, cut-gives, label-words, name-words, no_name, number-alone, states-once, name-behind, none-states, unmarked-states, number-states}
use Rattle.block.proofs.LabelsGained.{Item, its_label, its_states, Gained, gained-then, gained-map, gained-none, label-gained, states-gained}
use Rattle.block.proofs.OutcomeLaws.{then-done, need-done, pick-else, pick-when, refused-done, done_inj}
use Rattle.block.specs.LabelOrder.{comma, slash, no_comma, before_states, EntryStates}
use Rattle.block.specs.Labels.{Labelled, LabelCommand, Entry, first, next, numbered, labelled, states, Entries, at, character, with_label, with_states, begin_states, entry_number, entry_begins, entry_label, entry_states, state_label, entry_turn, entry_end, label_entries}
use Rattle.block.specs.Outcome.{Outcome, done, fold, need}
use Rattle.block.specs.declared.kinds.Labelling.{Labelling}
use Rattle.lexer.proofs.Basics.{and_left, and_right, by-test, not-both}
use Rattle.lexer.specs.Base.{pick, given}
use Rattle.lexer.specs.Words.{Numbered, punct, label, number}
use Rattle.lexer.specs.declared.refusal.Refusal.{Refusal}
use borrow.Author.Tests.{leb-true}
use lib.Dec.{ltb, leb}
use lib.ListN.{length}
use mathlib.Core.Bool.{true, false, ◌&&◌}
use mathlib.Core.List.{List, [], ◌∷◌, ◌++◌, map-append, append_assoc, append-nil}
use mathlib.Core.Logic.{◌↔◌, ◌⊎◌, inl, inr, ⊎_elim}
use mathlib.Core.Option.{some}
use mathlib.Core.Path.{◌≡◌, refl, sym, ap, ◌∙◌, subst}
use native.Mathlib.Omega.{arith}

-- A number from 1 to the count of the characters.
record Counts (cs : List Labelled) (k : ℕ) : Type 0 where
  low : 1 ≤ k
  high : k ≤ length cs

module _ (count : ℕ) (c : LabelCommand) (entered : ¬ (c.what ≡ Labelling.CharLabels)) where
  -- The words of the open entry, by where it is.
  abbrev OpenWords : List Labelled → Entry → List Numbered → Type 0
  OpenWords cs first o = o ≡ []
  OpenWords cs next o = o ≡ []
  OpenWords cs (numbered k i) o = (w : Numbered) × (o ≡ w ∷ []) × (number w ≡ k) × (c.what ≡ Labelling.CharStateLabels) × Counts cs k
  OpenWords cs (labelled k i) o =
      (w : Numbered) × (v : Numbered) × (o ≡ w ∷ v ∷ []) × (number w ≡ k) × (c.what ≡ Labelling.CharStateLabels) × Counts cs k × (slash v ≡ false)
  OpenWords cs (states k i s) o = EntryStates c.what o k s × Counts cs k × (given (character k cs).states ≡ false)

  -- Behind these words of an open entry, the characters have gained its label since it began.
  record Open (cs : List Labelled) (e : Entries) (o : List Numbered) : Type 0 where
    whole : no_comma o ≡ true
    gained : Gained cs e.characters (NameOf c.what o)
    words : OpenWords e.characters e.entry o

  -- An entry that ends has given what its words give.
  unstated : (o : List Numbered) → ((k : ℕ) (s : List (List ℕ)) → ¬ EntryStates c.what o k s) → (g : Item) → NameOf c.what o g ↔ EntryGives c.what o g
  unstated o f (its_label k n) = (λ h. h, λ h. h)
  unstated o f (its_states k s) = (λ h. absurd h, λ h. f k s h)

  stated : (o : List Numbered) (j : ℕ) (r : List (List ℕ)) → EntryStates c.what o j r → (g : Item) → (NameOf c.what o g ⊎ (g ≡ its_states j r)) ↔ EntryGives c.what o g
  stated o j r p (its_label k n) = (λ h. ⊎_elim (λ x. x) (λ x. apart x) h, λ h. inl h)
    where
      apart : {X : Type 0} → its_label k n ≡ its_states j r → X
      apart x = absurd (let z : ◌≡◌ {A = ℕ} 0 1 = cc in omega arith)
  stated o j r p (its_states k s) = (λ h. ⊎_elim (λ x. absurd x) same h, λ h. inr (states-once c.what o j k r s p h))
    where
      same : its_states k s ≡ its_states j r → EntryStates c.what o k s
      same x =
          let number : k ≡ j = cc in
          let names : s ≡ r = cc in
          rw (number, names) p

  end-gained : (cs : List Labelled) (e : Entries) (o : List Numbered) (ds : List Labelled) → Open cs e o → entry_end count c e.characters e.entry ≡ done ds
      → Gained cs ds (EntryGives c.what o)
  unfolding entry_end entry_states
  end-gained cs e o ds p h = go e.entry p.words h
    where
      go : (m : Entry) → OpenWords e.characters m o → entry_end count c e.characters m ≡ done ds → Gained cs ds (EntryGives c.what o)
      go first q h = refused-done Refusal.LabelEntry c.head ds h
      go next q h = rw (← done_inj h) (gained-map (unstated o (λ k s x. none-states c.what k s (rw q at x))) p.gained)
      go (numbered k i) q h =
          rw (← done_inj h) (gained-map (unstated o (λ j s x. number-states q.0 j s (rw (q.1, q.3) at x))) p.gained)
      go (labelled k i) q h =
          rw (← done_inj h) (gained-map (unstated o (λ j s x. unmarked-states q.0 q.1 j s q.6 (rw (q.2, q.4) at x))) p.gained)
      go (states k i s) q h =
          let few = pick-else (ltb count (length s)) Refusal.LabelEntry i (done (with_states k s e.characters)) ds h in
          rw (← done_inj few.1)
          (gained-map (stated o k s q.0) (gained-then p.gained (states-gained e.characters k q.1.low q.1.high s q.2)))

  -- A comma ends the open entry.
  comma-turn : (cs : List Labelled) (m : Entry) (w : Numbered) (t : Entries) → comma w ≡ true → entry_turn count c cs m w ≡ done t
      → (ds : List Labelled) × (entry_end count c cs m ≡ done ds) × (at ds next ≡ t)
  unfolding entry_turn entry_begins entry_end comma pick
  comma-turn cs first w t e h = refused-done Refusal.LabelEntry c.head t (rw e at h)
  comma-turn cs next w t e h = refused-done Refusal.LabelEntry c.head t (rw e at h)
  comma-turn cs (numbered k i) w t e h = (cs, refl, done_inj (rw e at h))
  comma-turn cs (labelled k i) w t e h = (cs, refl, done_inj (rw e at h))
  comma-turn cs (states k i s) w t e h =
      let d = then-done (entry_states count cs k i s) (λ ds. done (at ds next)) t (rw e at h) in
      (d.0, d.1, done_inj d.2)

  -- Before an entry nothing is open.
  none_open : (cs : List Labelled) (m : Entry) → OpenWords cs m [] → Open cs (at cs m) []
  unfolding at no_comma
  none_open cs m none = record { whole = refl; gained = gained-none (no_name c.what); words = none }

  -- Another word goes on with the open entry.
  module _ (cs : List Labelled) where
    opened : (ds : List Labelled) (m : Entry) (t : Entries) (o : List Numbered) → no_comma o ≡ true → Gained cs ds (NameOf c.what o) → OpenWords ds m o
        → done (at ds m) ≡ done t → Open cs t o
    unfolding at
    opened ds m t o whole gained words h = rw (← done_inj h) (record { whole = whole; gained = gained; words = words })

    begin-open : (ds : List Labelled) (k i : ℕ) (t : Entries) (o : List Numbered) → no_comma o ≡ true → Gained cs ds (NameOf c.what o) → Counts ds k
        → EntryStates c.what o k [] → begin_states ds k i ≡ done t → Open cs t o
    unfolding begin_states
    begin-open ds k i t o whole gained counts none h =
        let free = pick-else (given (character k ds).states) Refusal.LabelEntry i (done (at ds (states k i []))) t h in
        opened ds (states k i []) t o whole gained (none, counts, free.0) free.1

    -- the number of a character
    number-open : (l : Labelling) (ds : List Labelled) (w : Numbered) (t : Entries) → c.what ≡ l → no_comma (w ∷ []) ≡ true → Gained cs ds (NameOf c.what (w ∷ [])) → Counts ds (number w)
        → entry_number l ds w (number w) ≡ done t → Open cs t (w ∷ [])
    unfolding entry_number before_states
    number-open Labelling.CharLabels ds w t is whole gained counts h = absurd (entered is)
    number-open Labelling.CharStateLabels ds w t is whole gained counts h =
        opened ds (numbered (number w) w.index) t (w ∷ []) whole gained (w, refl, refl, is, counts) h
    number-open Labelling.StateLabels ds w t is whole gained counts h =
        begin-open ds (number w) w.index t (w ∷ []) whole gained counts
        (rw is (record { first = w; front = []; last = []; words = refl; numbered = refl; fronted = refl; named = refl })) h

    begins-open : (ds : List Labelled) (w : Numbered) (t : Entries) (o : List Numbered) → o ≡ [] → no_comma (o ++ (w ∷ [])) ≡ true → Gained cs ds (NameOf c.what o) → entry_begins c ds w ≡ done t
        → Open cs t (o ++ (w ∷ []))
    unfolding entry_begins
    begins-open ds w t o none whole gained h =
        let k = number w in
        let good = pick-else (punct 44 w) Refusal.LabelEntry c.head _ t h in
        let range = pick-when (leb 1 k && leb k (length ds)) Refusal.LabelEntry w.index (entry_number c.what ds w k) t good.1 in
        let counts : Counts ds k = record { low = leb-true 1 k (and_left (leb 1 k) (leb k (length ds)) range.0); high = leb-true k (length ds) (and_right (leb 1 k) (leb k (length ds)) range.0) } in
        let unnamed : Gained cs ds (NameOf c.what []) = rw none at gained in
        let alone = gained-map (λ g. (λ x. absurd (no_name c.what g x), λ x. absurd (number-alone c.what w g x))) unnamed in
        rw none (number-open c.what ds w t refl (rw none at whole) alone counts range.1)

    -- `/` behind the number, or the label behind it
    slash-open : (ds : List Labelled) (k i : ℕ) (w x : Numbered) (t : Entries) → number w ≡ k → c.what ≡ Labelling.CharStateLabels → Counts ds k → slash x ≡ true
        → no_comma (w ∷ x ∷ []) ≡ true → Gained cs ds (NameOf c.what (w ∷ [])) → begin_states ds k i ≡ done t → Open cs t (w ∷ x ∷ [])
    unfolding before_states
    slash-open ds k i w x t is what counts marked whole gained h = begin-open ds k i t (w ∷ x ∷ []) whole (gained-map same gained) counts begun h
      where
        same : (g : Item) → NameOf c.what (w ∷ []) g ↔ NameOf c.what (w ∷ x ∷ []) g
        same (its_label j n) = (λ y. absurd (number-alone c.what w (its_label j n) y), λ y. not-both ((label-words w x [] j n).0 (rw what at y)).1 marked)
        same (its_states j s) = (λ y. y, λ y. y)

        begun : EntryStates c.what (w ∷ x ∷ []) k []
        begun = rw what (record { first = w; front = x ∷ []; last = []; words = refl; numbered = is; fronted = marked; named = refl })

    name-open : (ds : List Labelled) (k i : ℕ) (w x : Numbered) (t : Entries) → number w ≡ k → c.what ≡ Labelling.CharStateLabels → Counts ds k → slash x ≡ false
        → no_comma (w ∷ x ∷ []) ≡ true → Gained cs ds (NameOf c.what (w ∷ [])) → entry_label ds k i x ≡ done t → Open cs t (w ∷ x ∷ [])
    unfolding entry_label
    name-open ds k i w x t is what counts unmarked whole gained h =
        let free = pick-else (given (character k ds).label) Refusal.LabelEntry i _ t h in
        let n = then-done (need (label x) Refusal.NotName x.index) _ t free.1 in
        let named = need-done (label x) Refusal.NotName x.index n.0 n.1 in
        let more = label-gained ds k counts.low counts.high n.0 free.0 in
        let wide : Counts (with_label k n.0 ds) k = record { low = counts.low; high = rw more.sized counts.high } in
        opened (with_label k n.0 ds) (labelled k i) t (w ∷ x ∷ []) whole (gained-map (same n.0 named) (gained-then gained more)) (w, x, refl, is, what, wide, unmarked) n.2
      where
        same : (n : List ℕ) → label x ≡ some n → (g : Item) → (NameOf c.what (w ∷ []) g ⊎ (g ≡ its_label k n)) ↔ NameOf c.what (w ∷ x ∷ []) g
        same n named (its_label j m) =
            (λ y. ⊎_elim (λ z. absurd (number-alone c.what w (its_label j m) z)) this y, λ y. inr (that ((label-words w x [] j m).0 (rw what at y))))
          where
            this : its_label j m ≡ its_label k n → NameOf c.what (w ∷ x ∷ []) (its_label j m)
            this z =
                let number : k ≡ j = cc in
                let names : n ≡ m = cc in
                rw what ((label-words w x [] j m).1 (is ∙ number, unmarked, named ∙ ap some names))

            that : (number w ≡ j) × (slash x ≡ false) × (label x ≡ some m) → its_label j m ≡ its_label k n
            that z =
                let number : j ≡ k = sym z.0 ∙ is in
                let names : m ≡ n = some_inj (sym z.2 ∙ named) in
                cc
        same n named (its_states j s) = (λ y. ⊎_elim (λ z. z) (λ z. apart z) y, λ y. absurd y)
          where
            apart : its_states j s ≡ its_label k n → ⊥
            apart z = let z : ◌≡◌ {A = ℕ} 0 1 = cc in omega arith

    behind-open : (ds : List Labelled) (k i : ℕ) (w v x : Numbered) (t : Entries) → number w ≡ k → c.what ≡ Labelling.CharStateLabels → Counts ds k → slash v ≡ false → slash x ≡ true
        → no_comma (w ∷ v ∷ x ∷ []) ≡ true → Gained cs ds (NameOf c.what (w ∷ v ∷ [])) → begin_states ds k i ≡ done t → Open cs t (w ∷ v ∷ x ∷ [])
    unfolding before_states
    behind-open ds k i w v x t is what counts unmarked marked whole gained h =
        begin-open ds k i t (w ∷ v ∷ x ∷ []) whole (gained-map (name-words c.what w v [] (x ∷ [])) gained) counts
        (rw what (record { first = w; front = v ∷ x ∷ []; last = []; words = refl; numbered = is; fronted = rw (unmarked, marked); named = refl })) h

    -- a state label
    state-open : (ds : List Labelled) (k i : ℕ) (s : List (List ℕ)) (o : List Numbered) (x : Numbered) (t : Entries) → EntryStates c.what o k s → Counts ds k → given (character k ds).states ≡ false
        → no_comma (o ++ (x ∷ [])) ≡ true → Gained cs ds (NameOf c.what o) → state_label ds k i s x ≡ done t → Open cs t (o ++ (x ∷ []))
    unfolding state_label
    state-open ds k i s o x t p counts free whole gained h =
        let n = then-done (need (label x) Refusal.NotName x.index) _ t h in
        let named = need-done (label x) Refusal.NotName x.index n.0 n.1 in
        opened ds (states k i (s ++ (n.0 ∷ []))) t (o ++ (x ∷ [])) whole (gained-map (λ g. name-behind c.what o k s x g p) gained) (more n.0 named, counts, free) n.2
      where
        more : (n : List ℕ) → label x ≡ some n → EntryStates c.what (o ++ (x ∷ [])) k (s ++ (n ∷ []))
        more n named =
            record {
              first = p.first;
              front = p.front;
              last = p.last ++ (x ∷ []);
              words = rw (p.words, ← append_assoc);
              numbered = p.numbered;
              fronted = p.fronted;
              named = map-append label p.last (x ∷ []) ∙ rw (p.named, named) (sym (map-append some s (n ∷ [])));
            }

    word-open : (e : Entries) (o : List Numbered) (x : Numbered) (t : Entries) → comma x ≡ false → Open cs e o → entry_turn count c e.characters e.entry x ≡ done t
        → Open cs t (o ++ (x ∷ []))
    unfolding entry_turn comma slash pick
    word-open e o x t plain p h = go e.entry p.words h
      where
        ds : List Labelled
        ds = e.characters

        whole : no_comma (o ++ (x ∷ [])) ≡ true
        whole = no-comma-one o x p.whole plain

        go : (m : Entry) → OpenWords ds m o → entry_turn count c ds m x ≡ done t → Open cs t (o ++ (x ∷ []))
        go first q h = begins-open ds x t o q whole p.gained h
        go next q h = begins-open ds x t o q whole p.gained h
        go (numbered k i) q h =
            let gained : Gained cs ds (NameOf c.what (q.0 ∷ [])) = rw q.1 at p.gained in
            let one : no_comma (q.0 ∷ x ∷ []) ≡ true = rw q.1 at whole in
            rw q.1
            (by-test (slash x) (λ s. slash-open ds k i q.0 x t q.2 q.3 q.4 s one gained (rw (plain, s) at h))
            (λ s. name-open ds k i q.0 x t q.2 q.3 q.4 s one gained (rw (plain, s) at h)))
        go (labelled k i) q h =
            let gained : Gained cs ds (NameOf c.what (q.0 ∷ q.1 ∷ [])) = rw q.2 at p.gained in
            let one : no_comma (q.0 ∷ q.1 ∷ x ∷ []) ≡ true = rw q.2 at whole in
            rw q.2
            (by-test (slash x) (λ s. behind-open ds k i q.0 q.1 x t q.3 q.4 q.5 q.6 s one gained (rw (plain, s) at h))
            (λ s. refused-done Refusal.LabelEntry x.index t (rw (plain, s) at h)))
        go (states k i s) q h = state-open ds k i s o x t q.0 q.1 q.2 whole p.gained (rw plain at h)

  -- All the words of a command.
  turn : Entries → Numbered → Outcome Entries
  turn e w = entry_turn count c e.characters e.entry w

  words-gained : (ws : List Numbered) (cs : List Labelled) (e f : Entries) (o : List Numbered) (ds : List Labelled) → Open cs e o → fold turn e ws ≡ done f
      → entry_end count c f.characters f.entry ≡ done ds → Gained cs ds (EntriesGive c.what (o ++ ws))
  unfolding fold turn
  words-gained [] cs e f o ds p h q =
      rw append-nil (gained-map (only-gives c.what o p.whole) (end-gained cs e o ds p (rw (done_inj h) q)))
  words-gained (w ∷ ws) cs e f o ds p h q =
      let one = then-done (turn e w) (λ t. fold turn t ws) f h in
      by-test (comma w)
      (λ parts.
      let d = comma-turn e.characters e.entry w one.0 parts one.1 in
      let ended = end-gained cs e o d.0 p d.1 in
      let more = words-gained ws d.0 one.0 f [] ds (subst (λ (t : Entries). Open d.0 t []) d.2 (none_open d.0 next refl)) one.2 q in
      gained-map (cut-gives c.what o w ws p.whole parts) (gained-then ended more))
      (λ plain. rw append_assoc at (words-gained ws cs one.0 f (o ++ (w ∷ [])) ds (word-open cs e o w one.0 plain p one.1) one.2 q))

  pub entries-gained : (cs ds : List Labelled) → label_entries count c cs ≡ done ds → Gained cs ds (EntriesGive c.what c.words)
  unfolding label_entries turn
  entries-gained cs ds h =
      let e = then-done (fold turn (at cs first) c.words) (λ e. entry_end count c e.characters e.entry) ds h in
      words-gained c.words cs (at cs first) e.0 [] ds (none_open cs first refl) e.1 e.2
