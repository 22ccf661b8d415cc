-- The rows of a written form are read. Assumes nothing.
use Prim.Native.Nat.{ℕ, suc, ◌<◌}
use Rattle.block.proofs.RowsSound.{names-append}
use Rattle.block.specs.Cell.{Cell, state, uncertain, polymorphic, missing, gap}
use Rattle.block.specs.Interleaved.{all_long}
use Rattle.block.specs.Names.{known}
use Rattle.block.specs.Reading.{Taxon}
use Rattle.block.specs.Sequential.{Shape, between, names, row_begins, sequential_turn}
use Rattle.block.specs.declared.data.DataType.{DataType}
use Rattle.lexer.proofs.Basics.{and_left, and_right, or_left, or_right, or-both, alike-sym, or-first, or-second}
use Rattle.lexer.specs.Base.{alike}
use Rattle.lexer.specs.Tokens.{Token}
use Rattle.record.proofs.CellsRead.{Grown, cells-grown, row-goes-on}
use Rattle.record.proofs.CommandLaws.{Turns, end-turned, newline-turned, Passes, there, sign-passes, words_from}
use Rattle.record.proofs.FormTokens.{mark, newline, name, set_tokens, cell_tokens, cells_tokens, rows_tokens}
use Rattle.record.proofs.NameLaws.{name-label}
use Rattle.record.proofs.SignLaws.{Signs}
use Rattle.record.specs.Form.{sign, missing_sign, gap_sign}
use Rattle.block.specs.Sound.{sound_name, sound_names, names_differ, sound_cells, sound_rows, gap_among, gap_in}
use borrow.Author.Tests.{not-true, eqb-true, ne_eqb}
use lib.Dec.{eqb}
use lib.ListN.{length, length-append}
use mathlib.Core.Bool.{Bool, true, false, not}
use mathlib.Core.List.{List, [], ◌∷◌, ◌++◌, append-nil, append_assoc}
use mathlib.Core.Path.{◌≡◌, refl, ◌∙◌}
use native.Mathlib.Omega.{arith}

-- Rows part no command.
set-passes : (symbols s : List ℕ) {ts rest : List Token} → Passes ts rest → Passes (set_tokens symbols s ts) rest
unfolding set_tokens
set-passes symbols [] p = p
set-passes symbols (i ∷ s) p = sign-passes (sign symbols i) (set-passes symbols s p)

cell-passes : (type : DataType) (symbols : List ℕ) (c : Cell) {ts rest : List Token} → Passes ts rest → Passes (cell_tokens type symbols c ts) rest
unfolding words_from cell_tokens
cell-passes type symbols (state i) p = sign-passes (sign symbols i) p
cell-passes type symbols (uncertain s) p = there (mark 123) refl (set-passes symbols s (there (mark 125) refl p))
cell-passes type symbols (polymorphic s) p = there (mark 40) refl (set-passes symbols s (there (mark 41) refl p))
cell-passes type symbols missing p = sign-passes (missing_sign type symbols) p
cell-passes type symbols gap p = sign-passes (gap_sign type symbols) p

cells-passes : (type : DataType) (symbols : List ℕ) (cs : List Cell) {ts rest : List Token} → Passes ts rest → Passes (cells_tokens type symbols cs ts) rest
unfolding cells_tokens
cells-passes type symbols [] p = p
cells-passes type symbols (c ∷ cs) p = cell-passes type symbols c (cells-passes type symbols cs p)

pub rows-passes : (type : DataType) (symbols : List ℕ) (xs : List Taxon) {ts rest : List Token} → Passes ts rest → Passes (rows_tokens type symbols xs ts) rest
unfolding words_from rows_tokens
rows-passes type symbols [] p = p
rows-passes type symbols (x ∷ xs) p =
    there (name x.name) refl (cells-passes type symbols x.cells (there newline refl (rows-passes type symbols xs p)))

-- A name that differs from all is new at its place.
known-later : (m n : List ℕ) (l r : List (List ℕ)) → known m (l ++ (n ∷ r)) ≡ false → alike m n ≡ false
unfolding known
known-later m n [] r h = or_left (alike m n) (known m r) h
known-later m n (k ∷ l) r h = known-later m n l r (or_right (alike m k) (known m (l ++ (n ∷ r))) h)

new-name : (n : List ℕ) (l r : List (List ℕ)) → names_differ (l ++ (n ∷ r)) ≡ true → known n l ≡ false
unfolding known names_differ
new-name n [] r h = refl
new-name n (m ∷ l) r h =
    let later : known m (l ++ (n ∷ r)) ≡ false = not-true (known m (l ++ (n ∷ r))) (and_left (not (known m (l ++ (n ∷ r)))) (names_differ (l ++ (n ∷ r))) h) in
    or-both (alike-sym n m ∙ known-later m n l r later) (new-name n l r (and_right (not (known m (l ++ (n ∷ r)))) (names_differ (l ++ (n ∷ r))) h))

module _ (sh : Shape) (type : DataType) (symbols : List ℕ) (gaps : Bool) (signs : Signs sh.format type symbols gaps) (some-cell : 0 < sh.characters) where
  pub rows-turned : (xs rows : List Taxon) (rest : List Token) → sound_rows (length symbols) xs ≡ true → (gap_in xs ≡ true → gaps ≡ true)
      → all_long sh.characters xs ≡ true → sound_names (names xs) ≡ true → names_differ (names (rows ++ xs)) ≡ true
      → length (rows ++ xs) ≡ sh.taxa
      → Turns (sequential_turn sh) (between rows) (rows_tokens type symbols xs (mark 59 ∷ rest)) (between (rows ++ xs))
  unfolding words_from rows_tokens sequential_turn row_begins sound_rows gap_in all_long sound_names names
  rows-turned [] rows rest sound gapped long named unlike count = rw append-nil end-turned
  rows-turned (x ∷ xs) rows rest sound gapped long named unlike count =
      let behind : List Token = rows_tokens type symbols xs (mark 59 ∷ rest) in
      let more : Turns (sequential_turn sh) (between (rows ++ (x ∷ []))) behind (between (rows ++ (x ∷ xs))) =
      rw append_assoc at
      (rows-turned xs (rows ++ (x ∷ [])) rest
      (and_right (sound_cells (length symbols) x.cells) (sound_rows (length symbols) xs) sound)
      (λ q. gapped (or-second (gap_among x.cells) (gap_in xs) q))
      (and_right (eqb (length x.cells) sh.characters) (all_long sh.characters xs) long)
      (and_right (sound_name x.name) (sound_names (names xs)) named)
      (rw append_assoc unlike)
      (rw append_assoc count))
      in
      let row : Grown sh rows x.name [] (cells_tokens type symbols x.cells (newline ∷ behind)) (between (rows ++ (x ∷ xs))) =
      cells-grown sh type symbols gaps signs rows x.name x.cells [] behind
      (and_left (sound_cells (length symbols) x.cells) (sound_rows (length symbols) xs) sound)
      (λ q. gapped (or-first (gap_among x.cells) (gap_in xs) q))
      (eqb-true (length x.cells) sh.characters (and_left (eqb (length x.cells) sh.characters) (all_long sh.characters xs) long))
      (newline-turned more)
      in
      let new : known x.name (names rows) ≡ false = new-name x.name (names rows) (names xs) (rw (names-append rows (x ∷ xs)) at unlike) in
      let room : length rows < sh.taxa = omega (arith, simp length-append at count) in
      record {
        turned =
            λ k.
            rw (ne_eqb (length rows) sh.taxa (λ e. omega arith), name-label k x.name (and_left (sound_name x.name) (sound_names (names xs)) named), new)
            ((row-goes-on sh rows x.name [] some-cell row k).turned (suc k));
      }
