-- What every command keeps of the state of reading, whatever is claimed of the dimensions and names that were declared, of the format, of the
-- label commands and of the matrix. Assumes nothing.
use Prim.Native.Nat.{ℕ, zero, suc}
use Rattle.block.proofs.OutcomeLaws.{then-done, pick-else, pick-when, pick-either, pick-test, refused-done, done_inj, All, all_one, all_map, Opt, opt-map}
use Rattle.block.specs.Blocks.{Data, Phase, outside, in_taxa, in_data, in_assumptions, in_trees, State, at_start, in_phase, begin_assumptions, no_data, begin_block, begin_words, taxa_count, taxa_step, matrix, labelling, labelled_by, with_dimensions, with_format, with_taxa, with_matrix, label_step, data_command, data_step, options, characters_in, assumption_step, with_types, matrix_typed, taxa_end, data_end, end_block, inner_step, ends, block_step, is_outside, step}
use Rattle.block.specs.Commands.{Command, command, empty, unended, words}
use Rattle.block.specs.Dimensions.{dimensions}
use Rattle.block.specs.Format.{Format, format}
use Rattle.block.specs.Labels.{LabelCommand}
use Rattle.block.specs.Names.{unique_names}
use Rattle.block.specs.Outcome.{done, refused, then}
use Rattle.block.specs.Reading.{Reading}
use Rattle.block.specs.TaxonOrder.{is_declaring}
use Rattle.block.specs.Typeset.{Types, typeset, Typeset}
use Rattle.block.specs.declared.dimension.Dimensions.{Dimensions}
use Rattle.block.specs.declared.kinds.Labelling.{Labelling}
use Rattle.block.specs.declared.model.CharacterOrdering.{CharacterOrdering}
use Rattle.lexer.specs.Base.{pick, is_empty, given, bytes}
use Rattle.lexer.specs.Words.{Numbered, is}
use Rattle.lexer.specs.declared.refusal.Refusal.{Refusal}
use lib.Dec.{eqb}
use lib.ListN.{length}
use mathlib.Core.Bool.{Bool, true, false, ◌&&◌, ◌||◌, not}
use mathlib.Core.List.{List, [], ◌∷◌}
use mathlib.Core.Option.{Option, none, some}
use mathlib.Core.Path.{◌≡◌, refl}

-- What is claimed of the parts of a state.
pub record Claims : Type 1 where
  pub dimensions : Dimensions → Type 0
  pub names : List (List ℕ) → Type 0
  pub format : Format → Type 0
  pub labels : LabelCommand → Type 0
  pub reading : Reading → Type 0

-- Of a data block: what MATRIX is read by, and the matrix.
pub record Ready (m : Claims) (d : Data) : Type 0 where
  pub dimensions : Opt m.dimensions d.dimensions
  pub format : Opt m.format d.format
  pub taxa : Opt m.names d.taxa
  pub labels : All m.labels d.labels

pub record Block (m : Claims) (d : Data) : Type 0 where
  pub ready : Ready m d
  pub matrix : Opt m.reading d.matrix

-- Of the block that is open.
abbrev pub Inside : Claims → Phase → Type 0
Inside m outside = Unit {0}
Inside m (in_taxa b count names) = Opt m.names names
Inside m (in_data b d) = Block m d
Inside m (in_assumptions b default set) = Unit {0}
Inside m (in_trees b) = Unit {0}

-- Of the state after a command: the invariant of the fold.
pub record Kept (m : Claims) (s : State) : Type 0 where
  pub phase : Inside m s.phase
  pub taxa : Opt m.names s.taxa
  pub matrix : Opt m.reading s.matrix

-- What the command must bring in, where it is read in this state: the claims of what it declares or reads.
pub record Brings (m : Claims) (s : State) (h : Numbered) (raw : List Numbered) : Type 0 where
  pub named : is (bytes "TAXLABELS") h ≡ true → is_declaring s.phase ≡ true → (names : List (List ℕ)) → unique_names (words raw) ≡ done names → m.names names
  pub sized : (x : Dimensions) → dimensions (words raw) ≡ done x → m.dimensions x
  pub formatted : (f : Format) → format h.index (words raw) ≡ done f → m.format f
  pub labelled : (l : Labelling) → m.labels (record { what = l; head = h.index; words = words raw })
  pub read : is (bytes "MATRIX") h ≡ true → (b : ℕ) (d : Data) → s.phase ≡ in_data b d → Ready m d → (r : Reading) → matrix d h raw ≡ done r → m.reading r
  pub typed : (r : Reading) (default : Option CharacterOrdering) (set : Option Types) → m.reading r → m.reading (with_types default set r)

module _ (m : Claims) (s : State) (h : Numbered) (raw : List Numbered) (u : Brings m s h raw) where
  -- The outcome of a step that opens or leaves a block.
  phased : (p : Phase) (t : State) → Inside m p → Kept m s → done (in_phase p s) ≡ done t → Kept m t
  unfolding in_phase
  phased p t i k e = rw (← done_inj e) (record { phase = i; taxa = k.taxa; matrix = k.matrix })

  -- A phase that a command of a block comes to.
  inside : (p q : Phase) → Inside m p → done p ≡ done q → Inside m q
  inside p q i e = rw (← done_inj e) i

  -- BEGIN
  assumptions-kept : (b : ℕ) (seen : Bool) (x : Option Reading) (t : State) → Kept m s → begin_assumptions s b seen x ≡ done t → Kept m t
  unfolding begin_assumptions
  assumptions-kept b true x t k e = refused-done Refusal.Block b t e
  assumptions-kept b false none t k e = refused-done Refusal.Block b t e
  assumptions-kept b false (some x) t k e = phased (in_assumptions b none none) t tt k e

  block-begins : (taxa : Option (List (List ℕ))) → Opt m.names taxa → Block m (no_data taxa)
  unfolding no_data
  block-begins taxa d = record { ready = record { dimensions = tt; format = tt; taxa = d; labels = tt }; matrix = tt }

  begin-kept : (b : Numbered) (t : State) → Kept m s → begin_block s b ≡ done t → Kept m t
  unfolding begin_block
  begin-kept b t k e =
      let i = b.index in
      let misplaced : refused Refusal.Block i ≡ done t → Kept m t = refused-done Refusal.Block i t in
      pick-either (is (bytes "TAXA") b) _ _ t (pick-either (given s.taxa || given s.matrix) _ _ t misplaced (phased (in_taxa i 0 none) t tt k))
      (pick-either (is (bytes "DATA") b || is (bytes "CHARACTERS") b) _ _ t (pick-either (given s.matrix) _ _ t misplaced (phased (in_data i (no_data s.taxa)) t (block-begins s.taxa k.taxa) k))
      (pick-either (is (bytes "ASSUMPTIONS") b) _ _ t (assumptions-kept i s.assumptions s.matrix t k)
      (pick-either (is (bytes "TREES") b) _ _ t (phased (in_trees i) t tt k)
      misplaced))) e

  words-kept : (ws : List Numbered) (t : State) → Kept m s → begin_words s h ws ≡ done t → Kept m t
  unfolding begin_words
  words-kept [] t k e = refused-done Refusal.NotBegin h.index t e
  words-kept (b ∷ []) t k e = begin-kept b t k (pick-when (is (bytes "BEGIN") h) Refusal.NotBegin h.index (begin_block s b) t e).1
  words-kept (b ∷ c ∷ r) t k e = refused-done Refusal.NotBegin h.index t e

  -- TAXA
  taxa-kept : (b count : ℕ) (names : Option (List (List ℕ))) (q : Phase) → s.phase ≡ in_taxa b count names → taxa_step h (words raw) b count names ≡ done q → Inside m q
  unfolding taxa_step taxa_count is_declaring
  taxa-kept b count (some names) q at e = refused-done Refusal.Command h.index q e
  taxa-kept b zero none q at e =
      let k = pick-when (is (bytes "DIMENSIONS") h) Refusal.Command h.index _ q e in
      let d = then-done (dimensions (words raw)) (taxa_count h b) q k.1 in
      let one = pick-else (not (eqb d.0.characters 0) || d.0.new_taxa) Refusal.Dimension h.index _ q d.2 in
      let two = pick-else (eqb d.0.taxa 0) Refusal.Absent h.index _ q one.1 in
      inside (in_taxa b d.0.taxa none) q tt two.1
  taxa-kept b (suc n) none q at e =
      let k = pick-when (is (bytes "TAXLABELS") h) Refusal.Command h.index _ q e in
      let names = then-done (unique_names (words raw)) (λ names. done (in_taxa b (suc n) (some names))) q k.1 in
      inside (in_taxa b (suc n) (some names.0)) q (u.named k.0 (rw at refl) names.0 names.1) names.2

  -- DATA: what each command adds.
  label_kept : (d : Data) (l : Option Labelling) (e : Data) → Block m d → label_step d h (words raw) l ≡ done e → Block m e
  unfolding label_step
  label_kept d none e b q = refused-done Refusal.Command h.index e q
  label_kept d (some l) e b q =
      let one : LabelCommand = record { what = l; head = h.index; words = words raw } in
      let k = pick-else (labelled_by l d.labels) Refusal.Command h.index _ e q in
      rw (← done_inj k.1) (record { ready = record { dimensions = b.ready.dimensions; format = b.ready.format; taxa = b.ready.taxa; labels = all_one m.labels d.labels one b.ready.labels (u.labelled l) }; matrix = b.matrix })

  data-kept : (i : ℕ) (d : Data) (e : Data) → s.phase ≡ in_data i d → Block m d → data_command d h raw ≡ done e → Block m e
  unfolding data_command
  data-kept i d e at b q =
      let repeated : refused Refusal.Command h.index ≡ done e → Block m e = refused-done Refusal.Command h.index e in
      pick-either (is (bytes "DIMENSIONS") h) _ _ e (pick-either (given d.dimensions) _ _ e repeated sizes)
      (pick-either (is (bytes "FORMAT") h) _ _ e (pick-either (given d.format) _ _ e repeated formatted)
      (pick-test (is (bytes "TAXLABELS") h) _ _ e (λ t. pick-either (given d.taxa) _ _ e repeated (named t))
      (pick-test (is (bytes "MATRIX") h) _ _ e read_rows (label_kept d (labelling h) e b)))) q
    where
      sizes : then (dimensions (words raw)) (λ x. done (with_dimensions d x)) ≡ done e → Block m e
      sizes p =
          let x = then-done (dimensions (words raw)) (λ x. done (with_dimensions d x)) e p in
          rw (← done_inj x.2) (unfold with_dimensions in record { ready = record { dimensions = u.sized x.0 x.1; format = b.ready.format; taxa = b.ready.taxa; labels = b.ready.labels }; matrix = b.matrix })

      formatted : then (format h.index (words raw)) (λ x. done (with_format d x)) ≡ done e → Block m e
      formatted p =
          let x = then-done (format h.index (words raw)) (λ x. done (with_format d x)) e p in
          rw (← done_inj x.2) (unfold with_format in record { ready = record { dimensions = b.ready.dimensions; format = u.formatted x.0 x.1; taxa = b.ready.taxa; labels = b.ready.labels }; matrix = b.matrix })

      named : is (bytes "TAXLABELS") h ≡ true → then (unique_names (words raw)) (λ x. done (with_taxa d x)) ≡ done e → Block m e
      named t p =
          let x = then-done (unique_names (words raw)) (λ x. done (with_taxa d x)) e p in
          rw (← done_inj x.2) (unfold with_taxa in record { ready = record { dimensions = b.ready.dimensions; format = b.ready.format; taxa = u.named t (unfold is_declaring in rw at refl) x.0 x.1; labels = b.ready.labels }; matrix = b.matrix })

      read_rows : is (bytes "MATRIX") h ≡ true → then (matrix d h raw) (λ x. done (with_matrix d x)) ≡ done e → Block m e
      read_rows t p =
          let x = then-done (matrix d h raw) (λ x. done (with_matrix d x)) e p in
          rw (← done_inj x.2) (unfold with_matrix in record { ready = record { dimensions = b.ready.dimensions; format = b.ready.format; taxa = b.ready.taxa; labels = b.ready.labels }; matrix = u.read t i d at b.ready x.0 x.1 })

  -- ASSUMPTIONS: the matrix stays as it is until the block ends.
  assumption-kept : (ws : List Numbered) (b : ℕ) (default : Option CharacterOrdering) (set : Option Types) (q : Phase)
      → assumption_step s h ws b default set ≡ done q → Inside m q
  unfolding assumption_step
  assumption-kept ws b default set q e =
      pick-either (is (bytes "OPTIONS") h && not (given default)) _ _ q typed
      (pick-either (is (bytes "TYPESET") h && not (given set)) _ _ q sets (refused-done Refusal.Command h.index q)) e
    where
      typed : then (options h ws) (λ o. done (in_assumptions b (some o) set)) ≡ done q → Inside m q
      typed p =
          let o = then-done (options h ws) (λ o. done (in_assumptions b (some o) set)) q p in
          inside (in_assumptions b (some o.0) set) q tt o.2

      head : Typeset
      head = record { characters = characters_in s.matrix; head = h.index }

      sets : then (typeset head ws) (λ ts. done (in_assumptions b default (some ts))) ≡ done q → Inside m q
      sets p =
          let ts = then-done (typeset head ws) (λ ts. done (in_assumptions b default (some ts))) q p in
          inside (in_assumptions b default (some ts.0)) q tt ts.2

  -- END: what a block leaves behind.
  taxa-end-kept : (b count : ℕ) (names : Option (List (List ℕ))) (t : State) → Kept m s → Opt m.names names → taxa_end s b count names ≡ done t → Kept m t
  unfolding taxa_end
  taxa-end-kept b count none t k d e = refused-done Refusal.Absent b t e
  taxa-end-kept b count (some names) t k d e =
      rw (← done_inj (pick-when (eqb (length names) count) Refusal.Count b _ t e).1) (record { phase = tt; taxa = d; matrix = k.matrix })

  data-end-kept : (b : ℕ) (x : Option Reading) (t : State) → Kept m s → Opt m.reading x → data_end s b x ≡ done t → Kept m t
  unfolding data_end
  data-end-kept b none t k r e = refused-done Refusal.Absent b t e
  data-end-kept b (some x) t k r e = rw (← done_inj e) (record { phase = tt; taxa = k.taxa; matrix = r })

  typed-kept : (default : Option CharacterOrdering) (set : Option Types) (x : Option Reading) → Opt m.reading x → Opt m.reading (matrix_typed default set x)
  unfolding matrix_typed
  typed-kept default set none r = tt
  typed-kept default set (some x) r = u.typed x default set r

  end_kept : (p : Phase) (t : State) → Kept m s → Inside m p → end_block s p ≡ done t → Kept m t
  unfolding end_block
  end_kept outside t k i e = rw (← done_inj e) k
  end_kept (in_taxa b count names) t k i e = taxa-end-kept b count names t k i e
  end_kept (in_data b d) t k i e = data-end-kept b d.matrix t k i.matrix e
  end_kept (in_assumptions b default set) t k i e =
      rw (← done_inj e) (record { phase = tt; taxa = k.taxa; matrix = typed-kept default set s.matrix k.matrix })
  end_kept (in_trees b) t k i e = phased outside t tt k e

  inner-kept : (p q : Phase) → s.phase ≡ p → Inside m p → inner_step s h raw p ≡ done q → Inside m q
  unfolding inner_step data_step
  inner-kept outside q at i e = inside outside q tt e
  inner-kept (in_taxa b count names) q at i e = taxa-kept b count names q at e
  inner-kept (in_data b d) q at i e =
      let k = pick-else (given d.matrix) Refusal.Command h.index _ q e in
      let x = then-done (data_command d h raw) (λ x. done (in_data b x)) q k.1 in
      inside (in_data b x.0) q (data-kept b d x.0 at i x.1) x.2
  inner-kept (in_assumptions b default set) q at i e = assumption-kept (words raw) b default set q e
  inner-kept (in_trees b) q at i e = inside (in_trees b) q tt e

  block-kept : (t : State) → Kept m s → block_step s h raw ≡ done t → Kept m t
  unfolding block_step
  block-kept t k e = pick-either (ends h) _ _ t over inner e
    where
      over : pick (is_empty (words raw)) (end_block s s.phase) (refused Refusal.WordsAfterEnd h.index) ≡ done t → Kept m t
      over p = end_kept s.phase t k k.phase (pick-when (is_empty (words raw)) Refusal.WordsAfterEnd h.index (end_block s s.phase) t p).1

      inner : then (inner_step s h raw s.phase) (λ q. done (in_phase q s)) ≡ done t → Kept m t
      inner p =
          let q = then-done (inner_step s h raw s.phase) (λ q. done (in_phase q s)) t p in
          phased q.0 t (inner-kept s.phase q.0 refl k.phase q.1) k q.2

  command-kept : (t : State) → Kept m s → step s (command h raw) ≡ done t → Kept m t
  unfolding step
  command-kept t k e = pick-either (is_outside s.phase) _ _ t (words-kept (words raw) t k) (block-kept t k) e

pub step_kept : (m : Claims) (s : State) (c : Command) (t : State) → ((h : Numbered) (raw : List Numbered) → c ≡ command h raw → Brings m s h raw)
    → Kept m s → step s c ≡ done t → Kept m t
unfolding step
step_kept m s (empty i) t b k e = refused-done Refusal.EmptyCommand i t e
step_kept m s (unended i) t b k e = refused-done Refusal.UnendedCommand i t e
step_kept m s (command h raw) t b k e = command-kept m s h raw (b h raw refl) t k e

-- At the start nothing is claimed.
pub start-kept : (m : Claims) → Kept m at_start
unfolding at_start
start-kept m = record { phase = tt; taxa = tt; matrix = tt }

-- Claims that follow from others.
pub record Weaker (m n : Claims) : Type 0 where
  pub dimensions : (d : Dimensions) → m.dimensions d → n.dimensions d
  pub names : (l : List (List ℕ)) → m.names l → n.names l
  pub format : (f : Format) → m.format f → n.format f
  pub labels : (c : LabelCommand) → m.labels c → n.labels c
  pub reading : (r : Reading) → m.reading r → n.reading r

module _ (m n : Claims) (w : Weaker m n) where
  block-map : (d : Data) → Block m d → Block n d
  block-map d b =
      record {
        ready =
            record {
              dimensions = opt-map m.dimensions n.dimensions w.dimensions d.dimensions b.ready.dimensions;
              format = opt-map m.format n.format w.format d.format b.ready.format;
              taxa = opt-map m.names n.names w.names d.taxa b.ready.taxa;
              labels = all_map m.labels n.labels w.labels d.labels b.ready.labels;
            };
        matrix = opt-map m.reading n.reading w.reading d.matrix b.matrix;
      }

  inside-map : (p : Phase) → Inside m p → Inside n p
  inside-map outside i = tt
  inside-map (in_taxa b count names) i = opt-map m.names n.names w.names names i
  inside-map (in_data b d) i = block-map d i
  inside-map (in_assumptions b default set) i = tt
  inside-map (in_trees b) i = tt

  pub kept_map : (s : State) → Kept m s → Kept n s
  kept_map s k =
      record {
        phase = inside-map s.phase k.phase;
        taxa = opt-map m.names n.names w.names s.taxa k.taxa;
        matrix = opt-map m.reading n.reading w.reading s.matrix k.matrix;
      }
