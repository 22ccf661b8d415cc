-- What the commands of a text refuse, block by block, and the token that each refusal names. Assumes nothing.
use Prim.Native.Nat.{ℕ, zero, suc}
use Rattle.block.proofs.ChunkSound.{none-some}
use Rattle.block.proofs.DeclaredFaults.{Unnamed, DimensionFaults, FormatFaults, unique-names-faults, dimensions-faults, format-faults}
use Rattle.block.proofs.Faulted.{Ends, gives, refuses, either, both, needed, come, then-ends}
use Rattle.block.proofs.LabelFaults.{LabellingFaults, labels-faults}
use Rattle.block.proofs.MatrixFaults.{MatrixFaults, SequenceFaults, PageFaults, LineFaults, sequential-faults, interleaved-faults}
use Rattle.block.proofs.OpenedFaults.{Opens, LabelsTold, Opened, OpenedIn, taxa-filled, empty_block, miscounted, words-faults}
use Rattle.block.proofs.OutcomeLaws.{All, Any, all_one, all_map, all_right, members}
use Rattle.block.proofs.ToldFaults.{Told, Characters, CommandOf, Behind, Shown, ShownLine, lines-shown, first, later, told, taxlabels-told, dimensions-told, format-told, matrix-told, types-told, options-told, told-first, told-words, labelling-told}
use Rattle.block.proofs.TypeFaults.{TypeFaults, typeset-faults}
use Rattle.block.specs.Blocks.{Data, Phase, outside, in_taxa, in_data, in_assumptions, in_trees, State, in_phase, taxa_count, taxa_step, declared_count, agrees, row_of, arranged, in_order, rows, matrix_reading, matrix_shape, matrix, labelling, labelled_by, with_dimensions, with_format, with_taxa, with_matrix, label_step, data_command, data_step, options, characters_in, assumption_step, taxa_end, data_end, end_block, inner_step, ends, block_step, is_outside, step}
use Rattle.block.specs.Commands.{command, words}
use Rattle.block.specs.Faults.{TokenOf, any, filled_block, known_block, FirstWord, format_in, open_name, unfilled, no_dimensions, no_counts, no_new_count, ShapedBy, LikeOne, BeginsRow, in_sequence, on_page, RowsMiscounted, too_many, short_page, RowsMissing, too_few, pages_short, NamesMiscounted, typeset_in, MayStandAt, words_after_end, wrong_command, no_taxa_count, not_ready, taxa_dimension, names_count, matrix_count, row_count, type_count, name_twice, row_twice, wrong_symbols, no_row, type_form}
use Rattle.block.specs.Interleaved.{Line, lines}
use Rattle.block.specs.Labels.{LabelCommand}
use Rattle.block.specs.Names.{known, unique_names}
use Rattle.block.specs.Outcome.{done}
use Rattle.block.specs.Reading.{Taxon, Reading}
use Rattle.block.specs.Sequential.{Shape, names}
use Rattle.block.specs.Typeset as Typeset
use Rattle.block.specs.Typeset.{Types, ordering}
use Rattle.block.specs.declared.dimension.Dimensions.{Dimensions}
use Rattle.block.specs.declared.kinds.Labelling.{Labelling}
use Rattle.block.specs.declared.model.CharacterOrdering.{CharacterOrdering}
use Rattle.lexer.proofs.Basics.{and_left, or_right, by-test, eqb_same}
use Rattle.lexer.specs.Base.{pick, bytes, byte, is_empty, given, alike}
use Rattle.lexer.specs.Words.{Numbered, is, punct, label, largest}
use Rattle.lexer.specs.declared.refusal.Refusal.{Refusal}
use borrow.Author.Tests.{eqb-true, eqb-false, ltb-true, leb-false, not-true}
use lib.Dec.{eqb}
use lib.ListN.{length}
use mathlib.Core.Bool.{true, false, ◌&&◌, ◌||◌, not, true≢false}
use mathlib.Core.List.Memᴰ
use mathlib.Core.List.{List, [], ◌∷◌, ◌++◌, Memᴰ}
use mathlib.Core.Logic.{inl, inr, ⊎_elim}
use mathlib.Core.Option.{Option, none, some}
use mathlib.Core.Path.{◌≡◌, refl, sym}
use native.Mathlib.Omega.{arith}

-- A name that is known is like one of these, and a name that no row has is like none of theirs.
known-one : (n : List ℕ) (ns : List (List ℕ)) → known n ns ≡ true → (m : List ℕ) × Memᴰ m ns × (alike n m ≡ true)
unfolding known
known-one n [] h = absurd (true≢false (sym h))
known-one n (m ∷ r) h = by-test (alike n m) (λ a. (m, Memᴰ.head refl, a)) (λ a. let x = known-one n r (rw a at h) in (x.0, Memᴰ.tail x.1, x.2))

like_one : (w : Numbered) (n : List ℕ) (ns : List (List ℕ)) → label w ≡ some n → known n ns ≡ true → LikeOne ns w
like_one w n ns l k = let x = known-one n ns k in record { name = n; named = l; other = x.0; among = x.1; like = x.2 }

no-row : (n : List ℕ) (taken : List Taxon) → row_of n taken ≡ none → (t : Taxon) → Memᴰ t taken → alike n t.name ≡ false
unfolding row_of pick
no-row n [] h t m = absurd (Memᴰ.not-nil m)
no-row n (x ∷ r) h t m =
    by-test (alike n x.name) (λ a. none-some _ (sym (rw a at h))) (λ a. ⊎_elim (λ e. rw e a) (λ k. no-row n r (rw a at h) t k) (Memᴰ.cases_cons m))

-- Names that do not agree with NTAX.
miscounted-names : (o : Option (List (List ℕ))) (n : ℕ) → agrees o (declared_count o n) ≡ false → (ns : List (List ℕ)) × (o ≡ some ns) × NamesMiscounted n ns
unfolding agrees declared_count
miscounted-names none n h = absurd (true≢false h)
miscounted-names (some ns) zero h = (ns, refl, inr (leb-false (length ns) largest (rw (eqb_same (length ns)) at h)))
miscounted-names (some ns) (suc n) h = (
  ns,
  refl,
  by-test (eqb (length ns) (suc n)) (λ s. inr (rw (eqb-true (length ns) (suc n) s) (leb-false (suc n) largest (rw s at h)))) (λ s. inl (λ z. omega arith, eqb-false (length ns) (suc n) s)),
)

-- A command inside a block.
module _ (text : List ℕ) (h : Numbered) (raw : List Numbered) (c : CommandOf text h raw) (inside : is_outside c.comes.state.phase ≡ false) where
  at_first : {n : Refusal} → MayStandAt text n h → Told text n h.index
  at_first s = told-first c s

  misplaced : Told text Refusal.Command h.index
  misplaced = at_first (wrong_command (first c any refl) inside)

  -- TAXA
  sizes : is (bytes "DIMENSIONS") h ≡ true → All (DimensionFaults (Told text)) (words raw)
  sizes e = told-words c (DimensionFaults (Told text)) (λ w q. dimensions-told c w q e)

  -- A word that stands between others.
  shown : (before : List Numbered) (w : Numbered) (after : List Numbered) → words raw ≡ before ++ (w ∷ after) → Shown (Behind text raw) w
  shown before w after e = (all_right (Shown (Behind text raw)) before (w ∷ after) (rw e at (told-words c (Shown (Behind text raw)) (λ w q. q)))).0

  names-faults : is (bytes "TAXLABELS") h ≡ true → Ends (Told text) (λ ns. Any ns × (unique_names (words raw) ≡ done ns)) (unique_names (words raw))
  names-faults e =
      unique-names-faults (Told text) (words raw) (told-words c (Unnamed (Told text)) (λ w q. taxlabels-told c w q e))
      (λ before w after ns n at r l k. let q = shown before w after at in told c w q (name_twice (later c w q (is (bytes "TAXLABELS")) e) before after at r (like_one w n ns l k)))

  taxa-faults : (b count : ℕ) (ns : Option (List (List ℕ))) → c.comes.state.phase ≡ in_taxa b count ns → Opened text (in_taxa b count ns) → Ends (Told text) (Opened text) (taxa_step h (words raw) b count ns)
  unfolding taxa_step taxa_count
  taxa-faults b count (some ns) at p = refuses misplaced
  taxa-faults b zero none at p =
      either (Told text) (is (bytes "DIMENSIONS") h)
      (λ e. then-ends (Told text) (come (Told text) (dimensions-faults (Told text) (words raw) (sizes e)))
      (λ d k. either (Told text) (not (eqb d.characters 0) || d.new_taxa) (λ n. refuses (at_first (taxa_dimension (first c (is (bytes "DIMENSIONS")) e) at k.1 n)))
      (λ n. either (Told text) (eqb d.taxa 0) (λ o. refuses (at_first (no_taxa_count (first c (is (bytes "DIMENSIONS")) e) at k.1 (eqb-true d.taxa 0 o))))
      (λ o. gives p))))
      (λ e. refuses misplaced)
  taxa-faults b (suc n) none at p =
      either (Told text) (is (bytes "TAXLABELS") h) (λ e. then-ends (Told text) (names-faults e) (λ ns k. gives p)) (λ e. refuses misplaced)

  -- MATRIX: its words are read by the format of the open block.
  module _ (e : is (bytes "MATRIX") h ≡ true) (b : ℕ) (d : Data) (at : c.comes.state.phase ≡ in_data b d) where
    abbrev at-matrix : FirstWord text (is (bytes "MATRIX")) h
    at-matrix = first c (is (bytes "MATRIX")) e

    -- What is known once there is a shape.
    record Shaped (sh : Shape) : Type 0 where
      head : sh.head ≡ h.index
      taxa : eqb sh.taxa 0 ≡ false
      format : format_in c.comes.state.phase ≡ sh.format

    shape-faults : (dims : Dimensions) → d.dimensions ≡ some dims → Ends (Told text) Shaped (matrix_shape d dims h.index)
    unfolding matrix_shape format_in
    shape-faults dims sized =
        let n = declared_count d.taxa dims.taxa in
        either (Told text) (eqb dims.characters 0 || eqb n 0) (λ p. refuses (at_first (not_ready at-matrix at (no_counts sized p))))
        (λ p. either (Told text) (not (agrees d.taxa n)) (λ o. let x = miscounted-names d.taxa dims.taxa (not-true (agrees d.taxa n) o) in refuses (at_first (names_count at-matrix at sized x.1 x.2)))
        (λ o. either (Told text) (dims.new_taxa && eqb dims.taxa 0) (λ q. refuses (at_first (not_ready at-matrix at (no_new_count sized q))))
        (λ q. gives (record { head = refl; taxa = or_right (eqb dims.characters 0) (eqb n 0) p; format = rw at refl }))))

    module _ (sh : Shape) (by : ShapedBy c.comes.state h sh) (k : Shaped sh) where
      -- a word of the matrix, and one at which something is miscounted or stands twice
      word : (w : Numbered) → Shown (Behind text raw) w → MatrixFaults (Told text) sh.format w
      word w q = rw k.format at (matrix-told c w q e)

      miscounted-at : (w : Numbered) → Shown (Behind text raw) w → RowsMiscounted sh raw w → Told text Refusal.Count w.index
      miscounted-at w q m = told c w q (row_count (later c w q (is (bytes "MATRIX")) e) by m)

      twice-at : (w : Numbered) (n : List ℕ) (ns : List (List ℕ)) → Shown (Behind text raw) w → BeginsRow sh raw w ns → label w ≡ some n → known n ns ≡ true → Told text Refusal.TaxonTwice w.index
      twice-at w n ns q m l o = told c w q (row_twice (later c w q (is (bytes "MATRIX")) e) by m (like_one w n ns l o))

      missing : RowsMissing sh raw → Told text Refusal.Count sh.head
      missing m = rw k.head (at_first (matrix_count at-matrix by m))

      sequence : sh.format.interleave ≡ false → SequenceFaults (Told text) sh (words raw)
      sequence f =
          record {
            full = λ before w after rows i r n. miscounted-at w (shown before w after i) (too_many before after f i r (eqb-true (length rows) sh.taxa n));
            twice = λ before w after rows n i r l o. twice-at w n (names rows) (shown before w after i) (in_sequence before after f i r) l o;
            few = λ rows r n. missing (too_few f r (eqb-false (length rows) sh.taxa n));
          }

      paged : sh.format.interleave ≡ true → PageFaults (Told text) sh (lines raw)
      paged f =
          record {
            short = λ before l after whole i n s. miscounted-at l.first (line before l after i) (short_page before after l whole f i n (ltb-true (suc (length after)) sh.taxa s));
            twice = λ before l after ns n i s named r o. twice-at l.first n ns (line before l after i) (on_page before after l f i s named) r o;
            few = λ p r n. missing (pages_short f r n);
          }
        where
          line : (before : List Line) (l : Line) (after : List Line) → lines raw ≡ before ++ (l ∷ after) → Shown (Behind text raw) l.first
          line before l after i = (all_right (ShownLine (Behind text raw)) before (l ∷ after) (rw i at (lines-shown (Behind text raw) raw c.behind))).0.0

      rows-faults : Ends (Told text) Any (rows sh raw)
      unfolding rows
      rows-faults =
          either (Told text) sh.format.interleave
          (λ f. interleaved-faults (Told text) sh raw (let n = eqb-false sh.taxa 0 k.taxa in omega arith) (paged f) (all_map (ShownLine (Behind text raw)) (LineFaults (Told text) sh.format) lined (lines raw) (lines-shown (Behind text raw) raw c.behind)))
          (λ f. sequential-faults (Told text) sh (words raw) (sequence f) (told-words c (MatrixFaults (Told text) sh.format) word))
        where
          lined : (l : Line) → ShownLine (Behind text raw) l → LineFaults (Told text) sh.format l
          lined l q = (word l.first q.0, all_map (Shown (Behind text raw)) (MatrixFaults (Told text) sh.format) word l.rest q.1)

      -- a declared name that no row has
      module _ (taken : List Taxon) (read : rows sh raw ≡ done taken) (declared : List (List ℕ)) (is : by.block_data.taxa ≡ some declared) where
        arranged-faults : (ns : List (List ℕ)) → All (λ n. Memᴰ n declared) ns → Ends (Told text) Any (arranged sh.head taken ns)
        unfolding arranged
        arranged-faults [] q = gives tt
        arranged-faults (n ∷ ns) q =
            then-ends (Told text) {P = Any} (needed (Told text) (row_of n taken) Refusal.TaxonAbsent sh.head (λ f. rw k.head (at_first (no_row at-matrix by read is q.0 (no-row n taken f)))) (λ t f. tt))
            (λ t f. then-ends (Told text) (arranged-faults ns q.1) (λ ts g. gives tt))

      order-faults : (taken : List Taxon) → rows sh raw ≡ done taken → (ns : Option (List (List ℕ))) → by.block_data.taxa ≡ ns → Ends (Told text) Any (in_order sh.head ns taken)
      unfolding in_order
      order-faults taken read none is = gives tt
      order-faults taken read (some ns) is = arranged-faults taken read ns is ns (members ns)

    matrix-faults : LabelsTold text d → Ends (Told text) Any (matrix d h raw)
    unfolding matrix matrix_reading
    matrix-faults q =
        then-ends (Told text) (needed (Told text) d.dimensions Refusal.Absent h.index (λ n. at_first (not_ready at-matrix at (no_dimensions n))) (λ x n. n))
        (λ dims sized. then-ends (Told text) (come (Told text) (shape-faults dims sized))
        (λ sh p.
        let by : ShapedBy c.comes.state h sh = record { block = b; block_data = d; inside = at; dimensions = dims; sized = sized; shaped = p.1 } in
        then-ends (Told text) (come (Told text) (rows-faults sh by p.0))
        (λ taken k. then-ends (Told text) (order-faults sh by p.0 taken k.1 d.taxa refl)
        (λ taxa m. then-ends (Told text) (labels-faults (Characters text) (Told text) (length sh.format.symbols) sh.characters d.labels (h, at-matrix, sh, by, refl) q) (λ cs f. gives tt)))))

  -- DATA
  label-faults : (d : Data) (l : Option Labelling) → labelling h ≡ l → LabelsTold text d → Ends (Told text) (LabelsTold text) (label_step d h (words raw) l)
  unfolding label_step
  label-faults d none e q = refuses misplaced
  label-faults d (some l) e q =
      let one : LabelCommand = record { what = l; head = h.index; words = words raw } in
      both (Told text) (labelled_by l d.labels) (refuses misplaced)
      (gives (all_one (LabellingFaults (Characters text) (Told text)) d.labels one q (labelling-told c l e)))

  data-faults : (b : ℕ) (d : Data) → c.comes.state.phase ≡ in_data b d → LabelsTold text d → Ends (Told text) (LabelsTold text) (data_command d h raw)
  unfolding data_command with_dimensions with_format with_taxa with_matrix
  data-faults b d at q =
      either (Told text) (is (bytes "DIMENSIONS") h)
      (λ e. both (Told text) (given d.dimensions) (refuses misplaced) (then-ends (Told text) (dimensions-faults (Told text) (words raw) (sizes e)) (λ x k. gives q)))
      (λ n. either (Told text) (is (bytes "FORMAT") h)
      (λ e. both (Told text) (given d.format) (refuses misplaced) (then-ends (Told text) (format-faults (Told text) h.index (words raw) (λ o r g. at_first (wrong_symbols (first c (is (bytes "FORMAT")) e) r g)) (formats e)) (λ x k. gives q)))
      (λ o. either (Told text) (is (bytes "TAXLABELS") h)
      (λ e. both (Told text) (given d.taxa) (refuses misplaced) (then-ends (Told text) (names-faults e) (λ x k. gives q)))
      (λ p. either (Told text) (is (bytes "MATRIX") h)
      (λ e. then-ends (Told text) (matrix-faults e b d at q) (λ x k. gives q))
      (λ r. label-faults d (labelling h) refl q))))
    where
      formats : is (bytes "FORMAT") h ≡ true → All (FormatFaults (Told text)) (words raw)
      formats e = told-words c (FormatFaults (Told text)) (λ w k. format-told c w k e)

  -- ASSUMPTIONS
  options-faults : is (bytes "OPTIONS") h ≡ true → (ws : List Numbered) → All (λ w. Told text Refusal.TypeSet w.index) ws → Ends (Told text) Any (options h ws)
  unfolding options
  options-faults e [] q = refuses misplaced
  options-faults e (a ∷ []) q = refuses misplaced
  options-faults e (a ∷ b ∷ []) q = refuses misplaced
  options-faults e (a ∷ b ∷ t ∷ []) q =
      both (Told text) (is (bytes "DEFTYPE") a && punct (byte "=") b)
      (needed (Told text) (ordering t) Refusal.TypeSet t.index (λ n. q.1.1.0) (λ o n. tt))
      (refuses misplaced)
  options-faults e (a ∷ b ∷ t ∷ f ∷ r) q = refuses misplaced

  assumption-faults : (b : ℕ) (default : Option CharacterOrdering) (set : Option Types) → Opens text known_block b
      → Ends (Told text) (Opened text) (assumption_step c.comes.state h (words raw) b default set)
  unfolding assumption_step
  assumption-faults b default set p =
      either (Told text) (is (bytes "OPTIONS") h && not (given default)) (λ e. then-ends (Told text) (typed (and_left _ _ e)) (λ o k. gives p))
      (λ n. either (Told text) (is (bytes "TYPESET") h && not (given set)) (λ e. then-ends (Told text) (listed (and_left _ _ e)) (λ ts k. gives p))
      (λ o. refuses misplaced))
    where
      typed : is (bytes "OPTIONS") h ≡ true → Ends (Told text) Any (options h (words raw))
      typed e = options-faults e (words raw) (told-words c (λ w. Told text Refusal.TypeSet w.index) (λ w q. options-told c w q e))

      listed : is (bytes "TYPESET") h ≡ true → Ends (Told text) Any (Typeset.typeset (typeset_in c.comes.state h) (words raw))
      listed e =
          let f = first c (is (bytes "TYPESET")) e in
          typeset-faults (Told text) (typeset_in c.comes.state h) (at_first (type_form f)) (words raw) (λ ts bad r n. at_first (type_count f r (eqb-false (length ts) (characters_in c.comes.state.matrix) n)))
          (told-words c (TypeFaults (Told text)) (λ w q. types-told c w q e))

  -- END
  module _ (e : ends h ≡ true) where
    abbrev end-word : FirstWord text ends h
    end-word = first c ends e

    taxa-end-faults : (s : State) (b count : ℕ) (ns : Option (List (List ℕ))) → Opens text (is (bytes "TAXA")) b → c.comes.state.phase ≡ in_taxa b count ns → Ends (Told text) (OpenedIn text) (taxa_end s b count ns)
    unfolding taxa_end open_name unfilled given
    taxa-end-faults s b count none k at = refuses (empty_block text h end-word b (taxa-filled text b k) (rw at refl) (rw at refl))
    taxa-end-faults s b count (some ns) k at = either (Told text) (eqb (length ns) count) (λ n. gives tt) (λ n. refuses (miscounted text h end-word b count ns k at n))

    data-end-faults : (s : State) (b : ℕ) (d : Data) (m : Option Reading) → Opens text filled_block b → c.comes.state.phase ≡ in_data b d → d.matrix ≡ m → Ends (Told text) (OpenedIn text) (data_end s b m)
    unfolding data_end open_name unfilled given
    data-end-faults s b d none k at is = refuses (empty_block text h end-word b k (rw at refl) (rw (at, is) refl))
    data-end-faults s b d (some r) k at is = gives tt

    end-faults : (s : State) (p : Phase) → c.comes.state.phase ≡ p → OpenedIn text s → Opened text p → Ends (Told text) (OpenedIn text) (end_block s p)
    unfolding end_block in_phase
    end-faults s outside at q k = gives q
    end-faults s (in_taxa b count ns) at q k = taxa-end-faults s b count ns k at
    end-faults s (in_data b d) at q k = data-end-faults s b d d.matrix k.0 at refl
    end-faults s (in_assumptions b default set) at q k = gives tt
    end-faults s (in_trees b) at q k = gives tt

  inner-faults : (p : Phase) → c.comes.state.phase ≡ p → Opened text p → Ends (Told text) (Opened text) (inner_step c.comes.state h raw p)
  unfolding inner_step data_step
  inner-faults outside at k = gives tt
  inner-faults (in_taxa b count ns) at k = taxa-faults b count ns at k
  inner-faults (in_data b d) at k =
      both (Told text) (given d.matrix) (refuses misplaced) (then-ends (Told text) (data-faults b d at k.1) (λ x q. gives {a = in_data b x} (k.0, q)))
  inner-faults (in_assumptions b default set) at k = assumption-faults b default set k
  inner-faults (in_trees b) at k = gives k

  block-faults : OpenedIn text c.comes.state → Ends (Told text) (OpenedIn text) (block_step c.comes.state h raw)
  unfolding block_step in_phase
  block-faults k =
      let s = c.comes.state in
      either (Told text) (ends h)
      (λ e. either (Told text) (is_empty (words raw)) (λ f. end-faults e s s.phase refl k k) (λ f. refuses (at_first (words_after_end (first c ends e) inside f))))
      (λ e. then-ends (Told text) (inner-faults s.phase refl k) (λ p q. gives q))

pub command-faults : (text : List ℕ) (h : Numbered) (raw : List Numbered) (c : CommandOf text h raw) → OpenedIn text c.comes.state → Ends (Told text) (OpenedIn text) (step c.comes.state (command h raw))
unfolding step
command-faults text h raw c k =
    let s = c.comes.state in
    either (Told text) (is_outside s.phase) (λ top. words-faults text h raw c top (words raw) refl (told-words c (TokenOf text) (λ w q. q.0.0))) (λ inside. block-faults text h raw c inside k)
