-- What a command does to the state, as far as label commands and the matrix go. Assumes nothing.
use Prim.Native.Nat.{ℕ, zero, suc}
use Rattle.block.proofs.ChunkSound.{none-some, some_inj}
use Rattle.block.proofs.DeclaredHeld.{other_word}
use Rattle.block.proofs.OutcomeLaws.{then-done, pick-else, pick-when, pick-either, pick-test, refused-done, done_inj}
use Rattle.block.specs.Blocks.{Data, Phase, outside, in_taxa, in_data, in_assumptions, in_trees, State, in_phase, begin_assumptions, no_data, begin_block, begin_words, taxa_count, taxa_step, matrix, labelling, labelled_by, with_dimensions, with_format, with_taxa, with_matrix, label_step, data_command, data_step, options, characters_in, assumption_step, matrix_typed, taxa_end, data_end, end_block, inner_step, ends, block_step, is_outside, step}
use Rattle.block.specs.Commands.{command, words}
use Rattle.block.specs.Dimensions.{dimensions}
use Rattle.block.specs.Format.{format}
use Rattle.block.specs.LabelOrder.{keyword}
use Rattle.block.specs.Names.{unique_names}
use Rattle.block.specs.Outcome.{Outcome, done, refused, then}
use Rattle.block.specs.Reading.{Reading}
use Rattle.block.specs.Typeset.{Types, typeset}
use Rattle.block.specs.declared.kinds.Labelling.{Labelling}
use Rattle.block.specs.declared.model.CharacterOrdering.{CharacterOrdering}
use Rattle.lexer.proofs.Basics.{by-test}
use Rattle.lexer.specs.Base.{pick, is_empty, given, bytes, alike, lower}
use Rattle.lexer.specs.Words.{Numbered, is}
use Rattle.lexer.specs.declared.refusal.Refusal.{Refusal}
use lib.Dec.{eqb}
use lib.ListN.{length}
use mathlib.Core.Bool.{Bool, true, false, ◌&&◌, ◌||◌, not, true≢false}
use mathlib.Core.List.{List, [], ◌∷◌, ◌++◌}
use mathlib.Core.Option.{Option, none, some}
use mathlib.Core.Path.{◌≡◌, refl, sym, ap, ◌∙◌}

-- No data block is open.
abbrev pub Away : Phase → Type 0
Away outside = Unit {0}
Away (in_taxa b count names) = Unit {0}
Away (in_data b d) = ⊥
Away (in_assumptions b default set) = Unit {0}
Away (in_trees b) = Unit {0}

-- The word begins no label command.
abbrev pub NoLabels : Numbered → Type 0
NoLabels h = (l : Labelling) → ¬ (is (keyword l) h ≡ true)

-- From one state to the next: a command outside of data blocks; the end of ASSUMPTIONS; a data block begins, or ends with its matrix; in it
-- a label command is kept, the matrix is read, or something else is declared.
pub data Move (s : State) (h : Numbered) (raw : List Numbered) (t : State) : Type 0 where
  elsewhere : Away s.phase → Away t.phase → t.matrix ≡ s.matrix → Move s h raw t
  typed : (default : Option CharacterOrdering) (set : Option Types) → Away s.phase → Away t.phase → t.matrix ≡ matrix_typed default set s.matrix → Move s h raw t
  begins : (b : ℕ) → Away s.phase → given s.matrix ≡ false → t.phase ≡ in_data b (no_data s.taxa) → Move s h raw t
  left : (b : ℕ) (d : Data) (r : Reading) → s.phase ≡ in_data b d → d.matrix ≡ some r → NoLabels h → Away t.phase → t.matrix ≡ some r → Move s h raw t
  labels : (b : ℕ) (d e : Data) (l : Labelling) → s.phase ≡ in_data b d → given d.matrix ≡ false → labelled_by l d.labels ≡ false → is (keyword l) h ≡ true → t.phase ≡ in_data b e
      → e.labels ≡ d.labels ++ (record { what = l; head = h.index; words = words raw } ∷ []) → e.matrix ≡ d.matrix → Move s h raw t
  reads : (b : ℕ) (d e : Data) (r : Reading) → s.phase ≡ in_data b d → matrix d h raw ≡ done r → NoLabels h → t.phase ≡ in_data b e
      → e.labels ≡ d.labels → e.matrix ≡ some r → Move s h raw t
  declares : (b : ℕ) (d e : Data) → s.phase ≡ in_data b d → NoLabels h → t.phase ≡ in_data b e → e.labels ≡ d.labels → e.matrix ≡ d.matrix → Move s h raw t

-- The keyword of a label command is no other keyword, and only of that command.
unlike : (k : List ℕ) (h : Numbered) → alike k (bytes "CHARLABELS") ≡ false → alike k (bytes "STATELABELS") ≡ false → alike k (bytes "CHARSTATELABELS") ≡ false
    → is k h ≡ true → NoLabels h
unfolding keyword
unlike k h c s b p Labelling.CharLabels q = other_word k (bytes "CHARLABELS") h c p q
unlike k h c s b p Labelling.StateLabels q = other_word k (bytes "STATELABELS") h s p q
unlike k h c s b p Labelling.CharStateLabels q = other_word k (bytes "CHARSTATELABELS") h b p q

pub keyword-once : (l m : Labelling) (h : Numbered) → is (keyword l) h ≡ true → is (keyword m) h ≡ true → l ≡ m
unfolding keyword alike bytes lower pick
keyword-once Labelling.CharLabels Labelling.CharLabels h p q = refl
keyword-once Labelling.CharLabels Labelling.StateLabels h p q = other_word (bytes "CHARLABELS") (bytes "STATELABELS") h refl p q
keyword-once Labelling.CharLabels Labelling.CharStateLabels h p q = other_word (bytes "CHARLABELS") (bytes "CHARSTATELABELS") h refl p q
keyword-once Labelling.StateLabels Labelling.CharLabels h p q = other_word (bytes "STATELABELS") (bytes "CHARLABELS") h refl p q
keyword-once Labelling.StateLabels Labelling.StateLabels h p q = refl
keyword-once Labelling.StateLabels Labelling.CharStateLabels h p q = other_word (bytes "STATELABELS") (bytes "CHARSTATELABELS") h refl p q
keyword-once Labelling.CharStateLabels Labelling.CharLabels h p q = other_word (bytes "CHARSTATELABELS") (bytes "CHARLABELS") h refl p q
keyword-once Labelling.CharStateLabels Labelling.StateLabels h p q = other_word (bytes "CHARSTATELABELS") (bytes "STATELABELS") h refl p q
keyword-once Labelling.CharStateLabels Labelling.CharStateLabels h p q = refl

labelling-word : (h : Numbered) (l : Labelling) → labelling h ≡ some l → is (keyword l) h ≡ true
unfolding labelling keyword pick
labelling-word h l e =
    by-test (is (bytes "CHARLABELS") h) (λ p. rw (← some_inj {a = Labelling.CharLabels} {b = l} (rw p at e)) p)
    (λ p. by-test (is (bytes "STATELABELS") h) (λ q. rw (← some_inj {a = Labelling.StateLabels} {b = l} (rw (p, q) at e)) q)
    (λ q. by-test (is (bytes "CHARSTATELABELS") h) (λ r. rw (← some_inj {a = Labelling.CharStateLabels} {b = l} (rw (p, q, r) at e)) r)
    (λ r. none-some l (rw (p, q, r) at e))))

module _ (s : State) (h : Numbered) (raw : List Numbered) where
  -- BEGIN
  phased : (p : Phase) (t : State) → Away s.phase → Away p → done (in_phase p s) ≡ done t → Move s h raw t
  unfolding in_phase
  phased p t a i e = rw (← done_inj e) (elsewhere a i refl)

  assumptions-move : (b : ℕ) (seen : Bool) (x : Option Reading) (t : State) → Away s.phase → begin_assumptions s b seen x ≡ done t → Move s h raw t
  unfolding begin_assumptions
  assumptions-move b true x t a e = refused-done Refusal.Block b t e
  assumptions-move b false none t a e = refused-done Refusal.Block b t e
  assumptions-move b false (some x) t a e = phased (in_assumptions b none none) t a tt e

  begin-move : (b : Numbered) (t : State) → Away s.phase → begin_block s b ≡ done t → Move s h raw t
  unfolding begin_block in_phase
  begin-move b t a e =
      let i = b.index in
      let misplaced : refused Refusal.Block i ≡ done t → Move s h raw t = refused-done Refusal.Block i t in
      pick-either (is (bytes "TAXA") b) _ _ t (pick-either (given s.taxa || given s.matrix) _ _ t misplaced (phased (in_taxa i 0 none) t a tt))
      (pick-either (is (bytes "DATA") b || is (bytes "CHARACTERS") b) _ _ t block
      (pick-either (is (bytes "ASSUMPTIONS") b) _ _ t (assumptions-move i s.assumptions s.matrix t a)
      (pick-either (is (bytes "TREES") b) _ _ t (phased (in_trees i) t a tt)
      misplaced))) e
    where
      block : pick (given s.matrix) (refused Refusal.Block b.index) (done (in_phase (in_data b.index (no_data s.taxa)) s)) ≡ done t → Move s h raw t
      block p =
          let q = pick-else (given s.matrix) Refusal.Block b.index _ t p in
          rw (← done_inj q.1) (begins b.index a q.0 refl)

  words-move : (ws : List Numbered) (t : State) → Away s.phase → begin_words s h ws ≡ done t → Move s h raw t
  unfolding begin_words
  words-move [] t a e = refused-done Refusal.NotBegin h.index t e
  words-move (b ∷ []) t a e = begin-move b t a (pick-when (is (bytes "BEGIN") h) Refusal.NotBegin h.index (begin_block s b) t e).1
  words-move (b ∷ c ∷ r) t a e = refused-done Refusal.NotBegin h.index t e

  -- TAXA and ASSUMPTIONS stay open.
  taxa-away : (b count : ℕ) (names : Option (List (List ℕ))) (q : Phase) → taxa_step h (words raw) b count names ≡ done q → Away q
  unfolding taxa_step taxa_count
  taxa-away b count (some names) q e = refused-done Refusal.Command h.index q e
  taxa-away b zero none q e =
      let k = pick-when (is (bytes "DIMENSIONS") h) Refusal.Command h.index _ q e in
      let d = then-done (dimensions (words raw)) (taxa_count h b) q k.1 in
      let one = pick-else (not (eqb d.0.characters 0) || d.0.new_taxa) Refusal.Dimension h.index _ q d.2 in
      let two = pick-else (eqb d.0.taxa 0) Refusal.Absent h.index _ q one.1 in
      rw (← done_inj two.1) tt
  taxa-away b (suc n) none q e =
      let k = pick-when (is (bytes "TAXLABELS") h) Refusal.Command h.index _ q e in
      let names = then-done (unique_names (words raw)) (λ names. done (in_taxa b (suc n) (some names))) q k.1 in
      rw (← done_inj names.2) tt

  assumption-away : (b : ℕ) (default : Option CharacterOrdering) (set : Option Types) (q : Phase) → assumption_step s h (words raw) b default set ≡ done q → Away q
  unfolding assumption_step
  assumption-away b default set q e =
      pick-either (is (bytes "OPTIONS") h && not (given default)) _ _ q
      (λ p. let o = then-done (options h (words raw)) (λ o. done (in_assumptions b (some o) set)) q p in rw (← done_inj o.2) tt)
      (pick-either (is (bytes "TYPESET") h && not (given set)) _ _ q
      (λ p. let o = then-done (typeset (record { characters = characters_in s.matrix; head = h.index }) (words raw)) (λ ts. done (in_assumptions b default (some ts))) q p in rw (← done_inj o.2) tt)
      (refused-done Refusal.Command h.index q)) e

  -- A command of a data block.
  module _ (b : ℕ) (d : Data) (inside : s.phase ≡ in_data b d) where
    declared : {A : Type 0} (o : Outcome A) (f : A → Data) (e : Data) → NoLabels h → ((a : A) → (f a).labels ≡ d.labels) → ((a : A) → (f a).matrix ≡ d.matrix)
        → then o (λ a. done (f a)) ≡ done e → Move s h raw (in_phase (in_data b e) s)
    unfolding in_phase
    declared o f e other same like p =
        let a = then-done o (λ a. done (f a)) e p in
        let new = sym (done_inj a.2) in
        declares b d e inside other refl (ap (λ x. x.labels) new ∙ same a.0) (ap (λ x. x.matrix) new ∙ like a.0)

    label-move : (l : Option Labelling) (e : Data) → given d.matrix ≡ false → labelling h ≡ l → label_step d h (words raw) l ≡ done e → Move s h raw (in_phase (in_data b e) s)
    unfolding label_step in_phase
    label-move none e free is p = refused-done Refusal.Command h.index e p
    label-move (some l) e free is p =
        let first = pick-else (labelled_by l d.labels) Refusal.Command h.index _ e p in
        let new = done_inj first.1 in
        labels b d e l inside free first.0 (labelling-word h l is) refl (ap (λ x. x.labels) (sym new)) (ap (λ x. x.matrix) (sym new))

    data-move : (e : Data) → given d.matrix ≡ false → data_command d h raw ≡ done e → Move s h raw (in_phase (in_data b e) s)
    unfolding data_command with_dimensions with_format with_taxa with_matrix in_phase alike bytes lower pick
    data-move e free p =
        let repeated : refused Refusal.Command h.index ≡ done e → Move s h raw (in_phase (in_data b e) s) = refused-done Refusal.Command h.index e in
        pick-test (is (bytes "DIMENSIONS") h) _ _ e (λ t. pick-either (given d.dimensions) _ _ e repeated (declared (dimensions (words raw)) (with_dimensions d) e (unlike (bytes "DIMENSIONS") h refl refl refl t) (λ a. refl) (λ a. refl)))
        (pick-test (is (bytes "FORMAT") h) _ _ e (λ t. pick-either (given d.format) _ _ e repeated (declared (format h.index (words raw)) (with_format d) e (unlike (bytes "FORMAT") h refl refl refl t) (λ a. refl) (λ a. refl)))
        (pick-test (is (bytes "TAXLABELS") h) _ _ e (λ t. pick-either (given d.taxa) _ _ e repeated (declared (unique_names (words raw)) (with_taxa d) e (unlike (bytes "TAXLABELS") h refl refl refl t) (λ a. refl) (λ a. refl)))
        (pick-test (is (bytes "MATRIX") h) _ _ e read (label-move (labelling h) e free refl)))) p
      where
        read : is (bytes "MATRIX") h ≡ true → then (matrix d h raw) (λ x. done (with_matrix d x)) ≡ done e → Move s h raw (in_phase (in_data b e) s)
        read t p =
            let x = then-done (matrix d h raw) (λ x. done (with_matrix d x)) e p in
            let new = done_inj x.2 in
            reads b d e x.0 inside x.1 (unlike (bytes "MATRIX") h refl refl refl t) refl (ap (λ y. y.labels) (sym new)) (ap (λ y. y.matrix) (sym new))

  -- END
  end-move : (p : Phase) (t : State) → s.phase ≡ p → NoLabels h → end_block s p ≡ done t → Move s h raw t
  unfolding end_block taxa_end data_end
  end-move outside t at n e = rw (← done_inj e) (elsewhere (rw at tt) (rw at tt) refl)
  end-move (in_taxa b count none) t at n e = refused-done Refusal.Absent b t e
  end-move (in_taxa b count (some names)) t at n e =
      rw (← done_inj (pick-when (eqb (length names) count) Refusal.Count b _ t e).1) (elsewhere (rw at tt) tt refl)
  end-move (in_data b d) t at n e = go d.matrix refl e
    where
      go : (m : Option Reading) → d.matrix ≡ m → data_end s b m ≡ done t → Move s h raw t
      go none is p = refused-done Refusal.Absent b t p
      go (some r) is p = rw (← done_inj p) (left b d r at is n tt refl)
  end-move (in_assumptions b default set) t at n e = rw (← done_inj e) (typed default set (rw at tt) tt refl)
  end-move (in_trees b) t at n e = phased outside t (rw at tt) tt e

  inner-move : (p q : Phase) → s.phase ≡ p → inner_step s h raw p ≡ done q → Move s h raw (in_phase q s)
  unfolding inner_step data_step
  inner-move outside q at e = phased q (in_phase q s) (rw at tt) (rw (← done_inj e) tt) refl
  inner-move (in_taxa b count names) q at e = phased q (in_phase q s) (rw at tt) (taxa-away b count names q e) refl
  inner-move (in_data b d) q at e =
      let k = pick-else (given d.matrix) Refusal.Command h.index _ q e in
      let x = then-done (data_command d h raw) (λ x. done (in_data b x)) q k.1 in
      rw (← done_inj x.2) (data-move b d at x.0 k.0 x.1)
  inner-move (in_assumptions b default set) q at e = phased q (in_phase q s) (rw at tt) (assumption-away b default set q e) refl
  inner-move (in_trees b) q at e = phased q (in_phase q s) (rw at tt) (rw (← done_inj e) tt) refl

  end-word : ends h ≡ true → NoLabels h
  unfolding ends alike bytes lower pick
  end-word e =
      by-test (is (bytes "END") h) (unlike (bytes "END") h refl refl refl) (λ p. unlike (bytes "ENDBLOCK") h refl refl refl (rw p at e))

  block-move : (t : State) → block_step s h raw ≡ done t → Move s h raw t
  unfolding block_step
  block-move t e = pick-test (ends h) _ _ t over inner e
    where
      over : ends h ≡ true → pick (is_empty (words raw)) (end_block s s.phase) (refused Refusal.WordsAfterEnd h.index) ≡ done t → Move s h raw t
      over n p = end-move s.phase t refl (end-word n) (pick-when (is_empty (words raw)) Refusal.WordsAfterEnd h.index (end_block s s.phase) t p).1

      inner : then (inner_step s h raw s.phase) (λ q. done (in_phase q s)) ≡ done t → Move s h raw t
      inner p =
          let q = then-done (inner_step s h raw s.phase) (λ q. done (in_phase q s)) t p in
          rw (← done_inj q.2) (inner-move s.phase q.0 refl q.1)

  outside-away : (p : Phase) → is_outside p ≡ true → Away p
  unfolding is_outside
  outside-away outside o = tt
  outside-away (in_taxa b count names) o = tt
  outside-away (in_data b d) o = true≢false (sym o)
  outside-away (in_assumptions b default set) o = tt
  outside-away (in_trees b) o = tt

  pub command-move : (t : State) → step s (command h raw) ≡ done t → Move s h raw t
  unfolding step
  command-move t e = pick-test (is_outside s.phase) _ _ t (λ o. words-move (words raw) t (outside-away s.phase o)) (block-move t) e
