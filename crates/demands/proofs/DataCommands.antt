-- What a command of a data block does, and what is said of a phase. Assumes nothing.
use Prim.Native.Nat.{ℕ}
use Rattle.block.proofs.BlockMoves.{Away}
use Rattle.block.proofs.DeclaredHeld.{other_word}
use Rattle.block.proofs.OutcomeLaws.{refused-done, done_inj, pick-else, pick-when, pick-test, then-done}
use Rattle.block.specs.Blocks.{Data, Phase, outside, in_taxa, in_data, in_assumptions, in_trees, State, in_phase, matrix, labelling, labelled_by, with_dimensions, with_format, with_taxa, with_matrix, label_step, data_command, data_step, data_end, end_block, inner_step, ends, block_step, is_outside, step}
use Rattle.block.specs.Commands.{command, words}
use Rattle.block.specs.Dimensions.{dimensions}
use Rattle.block.specs.Format.{Format, format}
use Rattle.block.specs.Names.{unique_names}
use Rattle.block.specs.Outcome.{done, refused, then}
use Rattle.block.specs.Reading.{Reading}
use Rattle.block.specs.declared.dimension.Dimensions.{Dimensions}
use Rattle.block.specs.declared.kinds.Labelling.{Labelling}
use Rattle.lexer.proofs.Basics.{by-test}
use Rattle.lexer.specs.Base.{pick, bytes, alike, lower, is_empty, given}
use Rattle.lexer.specs.Words.{Numbered, is}
use Rattle.lexer.specs.declared.refusal.Refusal.{Refusal}
use mathlib.Core.Bool.{true, false, true≢false}
use mathlib.Core.List.{List}
use mathlib.Core.Option.{Option, none, some}
use mathlib.Core.Path.{◌≡◌, refl, sym, ap, ◌∙◌}

-- One thing of a phase outside of data blocks, another of a data block.
abbrev pub ByPhase : Type 0 → (ℕ → Data → Type 0) → Phase → Type 0
ByPhase A B outside = A
ByPhase A B (in_taxa b count names) = A
ByPhase A B (in_data b d) = B b d
ByPhase A B (in_assumptions b default set) = A
ByPhase A B (in_trees b) = A

module _ (A : Type 0) (B : ℕ → Data → Type 0) where
  pub to-outside : (p : Phase) → Away p → ByPhase A B p → A
  to-outside outside a i = i
  to-outside (in_taxa b count names) a i = i
  to-outside (in_data b d) a i = absurd a
  to-outside (in_assumptions b default set) a i = i
  to-outside (in_trees b) a i = i

  pub from-outside : (p : Phase) → Away p → A → ByPhase A B p
  from-outside outside a i = i
  from-outside (in_taxa b count names) a i = i
  from-outside (in_data b d) a i = absurd a
  from-outside (in_assumptions b default set) a i = i
  from-outside (in_trees b) a i = i

-- What a command does to the data of its block: DIMENSIONS and FORMAT set theirs, once; MATRIX is read; others leave these as they are.
pub data Does (d : Data) (h : Numbered) (raw : List Numbered) (e : Data) : Type 0 where
  sizes : (x : Dimensions) → is (bytes "DIMENSIONS") h ≡ true → given d.dimensions ≡ false → dimensions (words raw) ≡ done x → with_dimensions d x ≡ e → Does d h raw e
  formats : (x : Format) → is (bytes "FORMAT") h ≡ true → given d.format ≡ false → format h.index (words raw) ≡ done x → with_format d x ≡ e → Does d h raw e
  reads : (x : Reading) → is (bytes "MATRIX") h ≡ true → matrix d h raw ≡ done x → with_matrix d x ≡ e → Does d h raw e
  other : is (bytes "DIMENSIONS") h ≡ false → is (bytes "FORMAT") h ≡ false → is (bytes "MATRIX") h ≡ false → e.dimensions ≡ d.dimensions → e.format ≡ d.format → Does d h raw e

-- A word that is one keyword is no other.
pub no_other : (k l : List ℕ) (h : Numbered) → alike k l ≡ false → is k h ≡ true → is l h ≡ false
no_other k l h e p = by-test (is l h) (λ q. other_word k l h e p q) (λ q. q)

module _ (d : Data) (h : Numbered) (raw : List Numbered) (e : Data) where
  data-does : data_command d h raw ≡ done e → Does d h raw e
  unfolding data_command label_step with_taxa alike bytes lower pick
  data-does p =
      by-test (is (bytes "DIMENSIONS") h) (λ t. sized t (rw t at p))
      (λ n. by-test (is (bytes "FORMAT") h) (λ t. formatted t (rw (n, t) at p))
      (λ f. by-test (is (bytes "TAXLABELS") h) (λ t. named n f t (rw (n, f, t) at p))
      (λ o. by-test (is (bytes "MATRIX") h) (λ t. read t (rw (n, f, o, t) at p)) (λ m. labelled n f m (labelling h) (rw (n, f, o, m) at p)))))
    where
      sized : is (bytes "DIMENSIONS") h ≡ true → pick (given d.dimensions) (refused Refusal.Command h.index) (then (dimensions (words raw)) (λ x. done (with_dimensions d x))) ≡ done e → Does d h raw e
      sized t q =
          let new = pick-else (given d.dimensions) Refusal.Command h.index _ e q in
          let x = then-done (dimensions (words raw)) (λ x. done (with_dimensions d x)) e new.1 in
          sizes x.0 t new.0 x.1 (done_inj x.2)

      formatted : is (bytes "FORMAT") h ≡ true → pick (given d.format) (refused Refusal.Command h.index) (then (format h.index (words raw)) (λ x. done (with_format d x))) ≡ done e → Does d h raw e
      formatted t q =
          let new = pick-else (given d.format) Refusal.Command h.index _ e q in
          let x = then-done (format h.index (words raw)) (λ x. done (with_format d x)) e new.1 in
          formats x.0 t new.0 x.1 (done_inj x.2)

      named : is (bytes "DIMENSIONS") h ≡ false → is (bytes "FORMAT") h ≡ false → is (bytes "TAXLABELS") h ≡ true
          → pick (given d.taxa) (refused Refusal.Command h.index) (then (unique_names (words raw)) (λ x. done (with_taxa d x))) ≡ done e → Does d h raw e
      named n f t q =
          let new = pick-else (given d.taxa) Refusal.Command h.index _ e q in
          let x = then-done (unique_names (words raw)) (λ x. done (with_taxa d x)) e new.1 in
          let same = done_inj x.2 in
          other n f (no_other (bytes "TAXLABELS") (bytes "MATRIX") h refl t) (ap (λ y. y.dimensions) (sym same)) (ap (λ y. y.format) (sym same))

      read : is (bytes "MATRIX") h ≡ true → then (matrix d h raw) (λ x. done (with_matrix d x)) ≡ done e → Does d h raw e
      read t q = let x = then-done (matrix d h raw) (λ x. done (with_matrix d x)) e q in reads x.0 t x.1 (done_inj x.2)

      labelled : is (bytes "DIMENSIONS") h ≡ false → is (bytes "FORMAT") h ≡ false → is (bytes "MATRIX") h ≡ false → (l : Option Labelling) → label_step d h (words raw) l ≡ done e → Does d h raw e
      labelled n f m none q = refused-done Refusal.Command h.index e q
      labelled n f m (some l) q =
          let same = done_inj (pick-else (labelled_by l d.labels) Refusal.Command h.index _ e q).1 in
          other n f m (ap (λ y. y.dimensions) (sym same)) (ap (λ y. y.format) (sym same))

-- Where a command of a data block leads: the end of the block, with the matrix; or on in the block, where no matrix is read yet.
pub data Within (b : ℕ) (d : Data) (h : Numbered) (raw : List Numbered) (t : State) : Type 0 where
  over : (r : Reading) → ends h ≡ true → d.matrix ≡ some r → t.phase ≡ outside → t.matrix ≡ some r → Within b d h raw t
  on : (e : Data) → given d.matrix ≡ false → Does d h raw e → t.phase ≡ in_data b e → Within b d h raw t

module _ (s : State) (b : ℕ) (d : Data) (inside : s.phase ≡ in_data b d) (h : Numbered) (raw : List Numbered) (t : State) where
  ended : (m : Option Reading) → ends h ≡ true → d.matrix ≡ m → data_end s b m ≡ done t → Within b d h raw t
  unfolding data_end
  ended none e at p = refused-done Refusal.Absent b t p
  ended (some r) e at p =
      let same = sym (done_inj p) in
      over r e at (ap (λ x. x.phase) same) (ap (λ x. x.matrix) same)

  inner : (q : Phase) → data_step h raw b d ≡ done q → in_phase q s ≡ t → Within b d h raw t
  unfolding data_step in_phase
  inner q p same =
      let free = pick-else (given d.matrix) Refusal.Command h.index _ q p in
      let x = then-done (data_command d h raw) (λ x. done (in_data b x)) q free.1 in
      on x.0 free.0 (data-does d h raw x.0 x.1) (ap (λ y. y.phase) (sym same) ∙ sym (done_inj x.2))

  pub data-within : step s (command h raw) ≡ done t → Within b d h raw t
  unfolding step block_step is_outside end_block inner_step
  data-within e =
      pick-test (is_outside s.phase) _ _ t (λ o. absurd (true≢false (sym o ∙ ap is_outside inside)))
      (pick-test (ends h) _ _ t
      (λ o p. ended d.matrix o refl (sym (ap (end_block s) inside) ∙ (pick-when (is_empty (words raw)) Refusal.WordsAfterEnd h.index (end_block s s.phase) t p).1))
      (λ p.
      let q = then-done (inner_step s h raw s.phase) (λ q. done (in_phase q s)) t p in
      inner q.0 (sym (ap (inner_step s h raw) inside) ∙ q.1) (done_inj q.2))) e
