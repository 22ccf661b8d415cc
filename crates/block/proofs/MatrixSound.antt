-- The reading of a matrix is sound but for the types of its characters. Assumes nothing.
use Prim.Native.Nat.{ℕ, suc, ◌≤◌}
use Rattle.block.proofs.BlocksKept.{Claims, Ready}
use Rattle.block.proofs.ChunkSound.{Fine}
use Rattle.block.proofs.CommandWords.{all_words}
use Rattle.block.proofs.DimensionsFew.{Few}
use Rattle.block.proofs.FormatSound.{Good, default-good}
use Rattle.block.proofs.LabelsSound.{States, Labels, OfWords, labels-labelled}
use Rattle.block.proofs.MatrixParts.{rows-keep, matrix-parts}
use Rattle.block.proofs.NamesSound.{Named, Names, SoundName, all_sound}
use Rattle.block.proofs.OutcomeLaws.{pick-either, All, all_append, Opt}
use Rattle.block.proofs.PagesSound.{interleaved-matrix}
use Rattle.block.proofs.RowsSound.{Whole, length-names, Matrix, sequential-matrix}
use Rattle.block.proofs.SoundParts.{labels-names, sound-parts}
use Rattle.block.specs.Blocks.{Data, declared_count, agrees, unordered, rows, matrix, orderable}
use Rattle.block.specs.Cell.{Cell}
use Rattle.block.specs.Commands.{words}
use Rattle.block.specs.Format.{Format, default_format}
use Rattle.block.specs.Interleaved.{all_long, interleaved}
use Rattle.block.specs.Labels.{Labelled}
use Rattle.block.specs.Outcome.{done}
use Rattle.block.specs.Reading.{Taxon, Reading}
use Rattle.block.specs.Sequential.{Shape, names, sequential}
use Rattle.block.specs.Sound.{names_differ, label_texts, few_states, sound_cells, sound_rows, is_gap, gap_among, gap_in, sound_symbols, Sound}
use Rattle.block.specs.TaxonOrder.{all_rows, Follows}
use Rattle.lexer.proofs.Basics.{and_left, and_right, and_both, by-test}
use Rattle.lexer.specs.Base.{pick, is_empty, given}
use Rattle.lexer.specs.Words.{Numbered, largest}
use borrow.Author.Tests.{eqb-true, eqb-false, eq-eqb, leb-true, le-leb}
use lib.Dec.{leb, eqb}
use lib.ListN.{length}
use mathlib.Core.Bool.{true, false, false≢true}
use mathlib.Core.List.{List, [], ◌∷◌, ◌++◌}
use mathlib.Core.Option.{Option, none, some, get_or}
use mathlib.Core.Path.{◌≡◌, refl, sym, ap, ◌∙◌}
use native.Mathlib.Omega.{arith}

-- A reading that is sound whatever the types of its characters; of the names of its taxa and of its labels, something holds in place of
-- their soundness.
pub record Untyped (N : List ℕ → Type 0) (r : Reading) : Type 0 where
  pub some_taxon : is_empty r.taxa ≡ false
  pub some_character : is_empty r.characters ≡ false
  pub taxa_few : leb (length r.taxa) largest ≡ true
  pub characters_few : leb (length r.characters) largest ≡ true
  pub rows_long : all_long (length r.characters) r.taxa ≡ true
  pub cells_sound : sound_rows (length r.symbols) r.taxa ≡ true
  pub symbols_sound : sound_symbols r.data_type r.symbols (gap_in r.taxa) ≡ true
  pub names_each : All N (names r.taxa)
  pub names_unlike : names_differ (names r.taxa) ≡ true
  pub labels_each : All N (label_texts r.characters)
  pub states_few : few_states (length r.symbols) r.characters ≡ true

pub typed-sound : (r : Reading) → Untyped SoundName r → orderable r.data_type r.characters ≡ true → Sound r
typed-sound r u o =
    sound-parts r u.some_taxon u.some_character u.taxa_few u.characters_few u.rows_long u.cells_sound u.symbols_sound (all_sound (names r.taxa) u.names_each) u.names_unlike (labels-names r.characters ∙ all_sound (label_texts r.characters) u.labels_each) u.states_few o

-- Whole rows, as tests.
module _ (f : Format) (n : ℕ) where
  pub whole_long : (rows : List Taxon) → All (Whole f n) rows → all_long n rows ≡ true
  unfolding all_long
  whole_long [] p = refl
  whole_long (t ∷ r) p = and_both (eq-eqb (length t.cells) n p.0.long) (whole_long r p.1)

  fine-cells : (cells : List Cell) → All (Fine f) cells → sound_cells (length f.symbols) cells ≡ true
  unfolding sound_cells
  fine-cells [] p = refl
  fine-cells (c ∷ r) p = and_both p.0.sound (fine-cells r p.1)

  whole-sound : (rows : List Taxon) → All (Whole f n) rows → sound_rows (length f.symbols) rows ≡ true
  unfolding sound_rows
  whole-sound [] p = refl
  whole-sound (t ∷ r) p = and_both (fine-cells t.cells p.0.fine) (whole-sound r p.1)

  -- a gap cell has a gap symbol
  gap-cells : (cells : List Cell) → All (Fine f) cells → gap_among cells ≡ true → given f.gap ≡ true
  unfolding gap_among
  gap-cells [] p h = absurd (false≢true h)
  gap-cells (c ∷ r) p h = by-test (is_gap c) p.0.gap_sign (λ e. gap-cells r p.1 (rw e at h))

  gap-rows : (rows : List Taxon) → All (Whole f n) rows → gap_in rows ≡ true → given f.gap ≡ true
  unfolding gap_in
  gap-rows [] p h = absurd (false≢true h)
  gap-rows (t ∷ r) p h = by-test (gap_among t.cells) (gap-cells t.cells p.0.fine) (λ e. gap-rows r p.1 (rw e at h))

  -- Rows in declared order are whole.
  rows_whole : (taken ts : List Taxon) → All (Whole f n) taken → all_rows taken ts → All (Whole f n) ts
  rows_whole = rows-keep (Whole f n) (λ x name w. record { long = w.long; fine = w.fine })

-- The taxa of a matrix: rows that are whole, names that differ and of which something holds, and as many as NTAX.
record Arranged (N : List ℕ → Type 0) (sh : Shape) (ts : List Taxon) : Type 0 where
  named : Named N (names ts)
  whole : All (Whole sh.format sh.characters) ts
  counted : length ts ≡ sh.taxa

follows-arranged : (N : List ℕ → Type 0) (sh : Shape) (declared : Option (List (List ℕ))) (taken ts : List Taxon) → Opt (Named N) declared
    → agrees declared sh.taxa ≡ true → Matrix N sh taken → Follows declared taken ts → Arranged N sh ts
unfolding agrees
follows-arranged N sh none taken ts d a m h = rw h (record { named = m.rowed.named; whole = m.rowed.whole; counted = m.counted })
follows-arranged N sh (some declared) taken ts d a m h =
    record {
      named = rw h.0 d;
      whole = rows_whole sh.format sh.characters taken ts m.rowed.whole h.1;
      counted = sym (length-names ts) ∙ ap length h.0 ∙ eqb-true (length declared) sh.taxa (and_left (eqb (length declared) sh.taxa) (leb sh.taxa largest) a);
    }

-- Characters with labels.
module _ (N : List ℕ → Type 0) (count : ℕ) where
  default-states : (s : Option (List (List ℕ))) → Opt (States N count) s → States N count (get_or s [])
  default-states none g = record { each = tt; few = omega arith }
  default-states (some s) g = g

  default-label : (l : Option (List ℕ)) (more : List (List ℕ)) → Opt N l → All N more → All N (pick (is_empty (get_or l [])) more (get_or l [] ∷ more))
  unfolding pick is_empty
  default-label none more p q = q
  default-label (some []) more p q = q
  default-label (some (b ∷ l)) more p q = (p, q)

  unordered-labels : (cs : List Labelled) → All (Labels N count) cs → All N (label_texts (unordered cs))
  unfolding unordered label_texts pick
  unordered-labels [] p = tt
  unordered-labels (c ∷ r) p =
      let s = get_or c.states [] in
      let more = all_append N s (label_texts (unordered r)) (default-states c.states p.0.states).each (unordered-labels r p.1) in
      default-label c.label (s ++ label_texts (unordered r)) p.0.label more

  unordered-few : (cs : List Labelled) → All (Labels N count) cs → few_states count (unordered cs) ≡ true
  unfolding unordered few_states
  unordered-few [] p = refl
  unordered-few (c ∷ r) p =
      let s = default-states c.states p.0.states in
      and_both (le-leb (length (get_or c.states [])) count s.few) (unordered-few r p.1)

pub unordered-length : (cs : List Labelled) → length (unordered cs) ≡ length cs
unfolding unordered
unordered-length [] = refl
unordered-length (c ∷ r) = ap suc (unordered-length r)

-- A list with a length above 0 is not empty.
module _ {A : Type 0} where
  some_of : (l : List A) (n : ℕ) → length l ≡ n → eqb n 0 ≡ false → is_empty l ≡ false
  unfolding is_empty
  some_of [] n e h = absurd (eqb-false n 0 h (sym e))
  some_of (a ∷ l) n e h = refl

-- A count of taxa has 64 bits, whether NTAX or the declared names give it.
taxa-few : (declared : Option (List (List ℕ))) (n k : ℕ) → n ≤ largest → k ≡ declared_count declared n → agrees declared k ≡ true → k ≤ largest
unfolding agrees declared_count
taxa-few none n k few e a = rw e few
taxa-few (some names) n k few e a = leb-true k largest (and_right (eqb (length names) k) (leb k largest) a)

pub default-formatted : (f : Option Format) → Opt Good f → Good (get_or f default_format)
default-formatted none p = default-good
default-formatted (some f) p = p

-- What is claimed of the parts of a state, so that the reading of a matrix is such.
abbrev pub claims : (List ℕ → Type 0) → (Numbered → Type 0) → Claims
claims N Q = record { dimensions = Few; names = Named N; format = Good; labels = OfWords Q; reading = Untyped N }

module _ (N : List ℕ → Type 0) (Q : Numbered → Type 0) (name : Names Q N) where
  pub rows-matrix : (sh : Shape) (good : Good sh.format) (raw : List Numbered) (taken : List Taxon) → All Q raw → rows sh raw ≡ done taken → Matrix N sh taken
  unfolding rows
  rows-matrix sh good raw taken q h =
      pick-either sh.format.interleave (interleaved sh raw) (sequential sh (words raw)) taken (interleaved-matrix N Q name sh good raw taken q) (sequential-matrix N Q name sh good (words raw) taken (all_words Q raw q)) h

  pub matrix-untyped : (d : Data) (h : Numbered) (raw : List Numbered) (r : Reading) → Ready (claims N Q) d → All Q raw → matrix d h raw ≡ done r → Untyped N r
  matrix-untyped d h raw r p q e =
      let k = matrix-parts d h raw r e in
      let sh = k.shape in
      let f = sh.format in
      let good : Good f = rw k.shaped.formatted (default-formatted d.format p.format) in
      let m = follows-arranged N sh d.taxa k.taken k.taxa p.taxa k.shaped.agreed (rows-matrix sh good raw k.taken q k.read) k.follows in
      let l = labels-labelled N Q name (length f.symbols) sh.characters d.labels k.labelled p.labels k.labels in
      let few : Few k.dimensions = rw k.sized at p.dimensions in
      let size : length (unordered k.labelled) ≡ sh.characters = unordered-length k.labelled ∙ l.sized in
      rw (← k.is)
      (record {
        some_taxon = some_of k.taxa sh.taxa m.counted k.shaped.some_taxa;
        some_character = some_of (unordered k.labelled) sh.characters size k.shaped.some_characters;
        taxa_few = le-leb (length k.taxa) largest (rw m.counted (taxa-few d.taxa k.dimensions.taxa sh.taxa few.taxa k.shaped.counted k.shaped.agreed));
        characters_few = le-leb (length (unordered k.labelled)) largest (rw (size, k.shaped.sized) few.characters);
        rows_long = rw size (whole_long f sh.characters k.taxa m.whole);
        cells_sound = whole-sound f sh.characters k.taxa m.whole;
        symbols_sound = good.symbols (gap_in k.taxa) (gap-rows f sh.characters k.taxa m.whole);
        names_each = m.named.each;
        names_unlike = m.named.differ;
        labels_each = unordered-labels N (length f.symbols) k.labelled l.each;
        states_few = unordered-few N (length f.symbols) k.labelled l.each;
      })
