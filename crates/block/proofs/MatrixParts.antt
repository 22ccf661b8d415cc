-- A matrix that was read: what it was read by, its rows, and the taxa in their order. Assumes nothing.
use Prim.Native.Nat.{ℕ}
use Rattle.block.proofs.ChunkSound.{none-some, some_inj, pick_some}
use Rattle.block.proofs.OutcomeLaws.{then-done, need-done, pick-else, done_inj, All}
use Rattle.block.specs.Blocks.{Data, declared_count, agrees, row_of, arranged, in_order, unordered, rows, matrix_reading, matrix_shape, matrix}
use Rattle.block.specs.Format.{default_format}
use Rattle.block.specs.Labels.{Labelled, apply_labels}
use Rattle.block.specs.Outcome.{done, need}
use Rattle.block.specs.Reading.{Taxon, Reading}
use Rattle.block.specs.Sequential.{Shape, names}
use Rattle.block.specs.TaxonOrder.{all_rows, Follows}
use Rattle.block.specs.declared.dimension.Dimensions.{Dimensions}
use Rattle.lexer.proofs.Basics.{or_left, or_right}
use Rattle.lexer.specs.Base.{alike}
use Rattle.lexer.specs.Words.{Numbered}
use Rattle.lexer.specs.declared.refusal.Refusal.{Refusal}
use borrow.Author.Tests.{not-false}
use lib.Dec.{eqb}
use lib.ListN.{length}
use mathlib.Core.Bool.{true, false, ◌&&◌, ◌||◌, not}
use mathlib.Core.List.{List, [], ◌∷◌}
use mathlib.Core.Option.{Option, none, some, get_or}
use mathlib.Core.Path.{◌≡◌, refl, sym}

-- The row of a declared name has that name.
row-named : (name : List ℕ) (taken : List Taxon) (t : Taxon) → row_of name taken ≡ some t → t.name ≡ name
unfolding row_of
row-named name [] t h = none-some t h
row-named name (x ∷ r) t h =
    let row : Taxon = record { name = name; cells = x.cells } in
    pick_some (alike name x.name) (some row) (row_of name r) t (λ e. rw (← some_inj {a = row} e)) (row-named name r t) h

-- What holds of every row, whatever its name, holds of every taxon that has the cells of a row.
module _ (P : Taxon → Type 0) (renamed : (x : Taxon) (name : List ℕ) → P x → P (record { name = name; cells = x.cells })) where
  row_keeps : (name : List ℕ) (taken : List Taxon) (t : Taxon) → All P taken → row_of name taken ≡ some t → P t
  unfolding row_of
  row_keeps name [] t p h = none-some t h
  row_keeps name (x ∷ r) t p h =
      let row : Taxon = record { name = name; cells = x.cells } in
      pick_some (alike name x.name) (some row) (row_of name r) t (λ e. rw (← some_inj {a = row} e) (renamed x name p.0)) (row_keeps name r t p.1) h

  pub rows-keep : (taken ts : List Taxon) → All P taken → all_rows taken ts → All P ts
  unfolding all_rows
  rows-keep taken [] p a = tt
  rows-keep taken (t ∷ r) p a = (row_keeps t.name taken t p a.0, rows-keep taken r p a.1)

-- Rows in declared order: the declared names, one row each.
arranged-follows : (head : ℕ) (taken : List Taxon) (declared : List (List ℕ)) (ts : List Taxon) → arranged head taken declared ≡ done ts → Follows (some declared) taken ts
unfolding arranged names all_rows
arranged-follows head taken [] ts h = rw (← done_inj h) (refl, tt)
arranged-follows head taken (m ∷ ms) ts h =
    let t = then-done (need (row_of m taken) Refusal.TaxonAbsent head) _ ts h in
    let more = then-done (arranged head taken ms) _ ts t.2 in
    let row = need-done (row_of m taken) Refusal.TaxonAbsent head t.0 t.1 in
    let name = row-named m taken t.0 row in
    let rest = arranged-follows head taken ms more.0 more.1 in
    rw (← done_inj more.2) (listed name rest.0, (rw name row, rest.1))
  where
    listed : {a b : List ℕ} {l r : List (List ℕ)} → a ≡ b → l ≡ r → a ∷ l ≡ b ∷ r
    listed {a} {b} {l} {r} e f = cc

order-follows : (head : ℕ) (declared : Option (List (List ℕ))) (taken ts : List Taxon) → in_order head declared taken ≡ done ts → Follows declared taken ts
unfolding in_order
order-follows head none taken ts h = sym (done_inj h)
order-follows head (some declared) taken ts h = arranged-follows head taken declared ts h

-- A shape that MATRIX can be read by, after what was declared.
pub record Shaped (d : Data) (dims : Dimensions) (sh : Shape) : Type 0 where
  pub counted : sh.taxa ≡ declared_count d.taxa dims.taxa
  pub sized : sh.characters ≡ dims.characters
  pub formatted : sh.format ≡ get_or d.format default_format
  pub some_characters : eqb sh.characters 0 ≡ false
  pub some_taxa : eqb sh.taxa 0 ≡ false
  pub agreed : agrees d.taxa sh.taxa ≡ true

pub matrix-shaped : (d : Data) (dims : Dimensions) (head : ℕ) (sh : Shape) → matrix_shape d dims head ≡ done sh → Shaped d dims sh
unfolding matrix_shape
matrix-shaped d dims head sh e =
    let n = declared_count d.taxa dims.taxa in
    let counts = pick-else (eqb dims.characters 0 || eqb n 0) Refusal.Absent head _ sh e in
    let same = pick-else (not (agrees d.taxa n)) Refusal.Count head _ sh counts.1 in
    let new = pick-else (dims.new_taxa && eqb dims.taxa 0) Refusal.Absent head _ sh same.1 in
    rw (← done_inj new.1)
    (record {
      counted = refl;
      sized = refl;
      formatted = refl;
      some_characters = or_left (eqb dims.characters 0) (eqb n 0) counts.0;
      some_taxa = or_right (eqb dims.characters 0) (eqb n 0) counts.0;
      agreed = not-false (agrees d.taxa n) same.0;
    })

-- What MATRIX was read by, and what it came to.
pub record Parts (d : Data) (h : Numbered) (raw : List Numbered) (r : Reading) : Type 0 where
  pub dimensions : Dimensions
  pub sized : d.dimensions ≡ some dimensions
  pub shape : Shape
  pub by : matrix_shape d dimensions h.index ≡ done shape
  pub shaped : Shaped d dimensions shape
  pub taken : List Taxon
  pub read : rows shape raw ≡ done taken
  pub taxa : List Taxon
  pub follows : Follows d.taxa taken taxa
  pub labelled : List Labelled
  pub labels : apply_labels (length shape.format.symbols) shape.characters d.labels ≡ done labelled
  pub is : record { data_type = shape.format.data_type; symbols = shape.format.symbols; taxa = taxa; characters = unordered labelled } ≡ r

pub matrix-parts : (d : Data) (h : Numbered) (raw : List Numbered) (r : Reading) → matrix d h raw ≡ done r → Parts d h raw r
unfolding matrix matrix_reading
matrix-parts d h raw r e =
    let dims = then-done (need d.dimensions Refusal.Absent h.index) _ r e in
    let sh = then-done (matrix_shape d dims.0 h.index) _ r dims.2 in
    let taken = then-done (rows sh.0 raw) _ r sh.2 in
    let ts = then-done (in_order sh.0.head d.taxa taken.0) _ r taken.2 in
    let cs = then-done (apply_labels (length sh.0.format.symbols) sh.0.characters d.labels) _ r ts.2 in
    record {
      dimensions = dims.0;
      sized = need-done d.dimensions Refusal.Absent h.index dims.0 dims.1;
      shape = sh.0;
      by = sh.1;
      shaped = matrix-shaped d dims.0 h.index sh.0 sh.1;
      taken = taken.0;
      read = taken.1;
      taxa = ts.0;
      follows = order-follows sh.0.head d.taxa taken.0 ts.0 ts.1;
      labelled = cs.0;
      labels = cs.1;
      is = done_inj cs.2;
    }
