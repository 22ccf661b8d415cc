-- One word more of a row that is put: where no set is open it opens one or has cells; where one is open it ends it or has states. Assumes nothing.
use Rattle.std.specs.Prelude.{Some, None, Option}
use Prim.Native.Nat.{ℕ, ◌≤◌, ◌<◌}
use Rattle.block.proofs.OutcomeLaws.{All}
use Rattle.block.specs.Cell.{Cell, insert_all}
use Rattle.block.specs.Chunk.{Row, plain, within, closer, set_cell}
use Rattle.block.specs.Format.{Format}
use Rattle.block.specs.declared.kinds.Bracket.{Bracket}
use Rattle.lexer.specs.Base.{pick}
use Rattle.lexer.specs.Words.{Numbered, punct}
use Rattle.matrix.specs.Taken.{cells_in, states_taken, taken, word_taken}
use Rattle.reading.proofs.RowPieces.{row-then}
use Rattle.reading.proofs.SetMarks.{cleared-zero, marked-clean, marked-length, marked-members, members-none, members-take, topped-low, word-states}
use Rattle.reading.specs.CodedCells.{Cleared, RowPut, marked, members, topped, word_coded}
use Rattle.reading.specs.RowWalk.{Walking, WordPut, open_in, states_in}
use Rattle.reading.specs.declared.cells.Putting.{Putting}
use Rattle.reading.specs.declared.lines.Walk.{Walk}
use lib.ListN.{length, take}
use mathlib.Core.Bool.{true, false}
use mathlib.Core.List.{List, [], ◌∷◌, ◌++◌}
use mathlib.Core.Path.{◌≡◌, refl, ap, ◌∙◌}
use native.Mathlib.Omega.{arith}

-- A row with one word more, by the tests of the definition.
module _ (f : Format) (cells : List Cell) (w : Numbered) where
  pub taken-brace : punct 123 w ≡ true → taken f (plain cells) w ≡ within cells Bracket.Brace w.index []
  unfolding taken pick
  taken-brace e = rw e

  pub taken-parenthesis : punct 123 w ≡ false → punct 40 w ≡ true → taken f (plain cells) w ≡ within cells Bracket.Parenthesis w.index []
  unfolding taken pick
  taken-parenthesis e d = rw (e, d)

  taken_word : punct 123 w ≡ false → punct 40 w ≡ false → taken f (plain cells) w ≡ plain (cells ++ word_taken f w)
  unfolding taken pick
  taken_word e d = rw (e, d)

  module _ (k : Bracket) (i : ℕ) (s : List ℕ) where
    pub taken-closer : punct (closer k) w ≡ true → taken f (within cells k i s) w ≡ plain (cells ++ (set_cell k s ∷ []))
    unfolding taken pick
    taken-closer e = rw e

    pub taken-states : punct (closer k) w ≡ false → taken f (within cells k i s) w ≡ within cells k i (insert_all (states_taken (word_taken f w)) s)
    unfolding taken pick
    taken-states e = rw e

-- No set is open where one is.
pub none-set : {X : Type 0} (o : Option Bracket) (k : Bracket) → o ≡ None → o ≡ Some k → X
none-set o k p q = let z : ◌≡◌ {A = ℕ} 0 1 = cc in absurd (omega arith)

module _ {codes buffer set : List ℕ} {walk : Walk} (w : Numbered) (low : walk.top ≤ 96) where
  module _ (none : walk.opened ≡ None) where
    -- A set opens.
    pub opening : (k : Bracket) → ((f : Format) (cells : List Cell) → taken f (plain cells) w ≡ within cells k w.index [])
        → WordPut codes w buffer set walk buffer set (record { row = walk.row; opened = Some k; top = walk.top })
    unfolding cells_in open_in states_in
    opening k e = record { kept = refl; within = low; grown = λ f same before from row g. go f before from row g }
      where
        go : (f : Format) (before : List ℕ) (from : Putting) (row : Row) → Walking before from row buffer set walk
            → Walking before from (taken f row w) buffer set (record { row = walk.row; opened = Some k; top = walk.top })
        go f before from (plain cells) g = rw (e f cells) (record { put = g.put; opened = refl; size = g.size; marked = g.marked; clean = g.clean })
        go f before from (within cells l i s) g = none-set walk.opened l none g.opened

    -- A word's cells are put.
    pub plain_word : {after : List ℕ} {next : Putting} → punct 123 w ≡ false → punct 40 w ≡ false → RowPut buffer walk.row (word_coded codes w) after next
        → WordPut codes w buffer set walk after set (record { row = next; opened = None; top = walk.top })
    unfolding cells_in open_in states_in
    plain_word {after} {next} e d p = record { kept = p.put.kept; within = low; grown = λ f same before from row g. go f same before from row g }
      where
        go : (f : Format) → word_coded codes w ≡ word_taken f w → (before : List ℕ) (from : Putting) (row : Row) → Walking before from row buffer set walk
            → Walking before from (taken f row w) after set (record { row = next; opened = None; top = walk.top })
        go f same before from (plain cells) g =
            rw (taken_word f cells w e d) (record { put = row-then g.put (rw same at p); opened = refl; size = g.size; marked = g.marked; clean = g.clean })
        go f same before from (within cells l i s) g = none-set walk.opened l none g.opened

  module _ {k : Bracket} (kind : walk.opened ≡ Some k) where
    -- The set ends and is put.
    pub closing : {after marks : List ℕ} {next : Putting} → punct (closer k) w ≡ true → RowPut buffer walk.row (set_cell k (members 0 (take walk.top set)) ∷ []) after next
        → Cleared set walk.top marks → WordPut codes w buffer set walk after marks (record { row = next; opened = None; top = 0 })
    unfolding cells_in open_in states_in
    closing {after} {marks} {next} e p c = record { kept = p.put.kept; within = omega arith; grown = λ f same before from row g. go f before from row g }
      where
        go : (f : Format) (before : List ℕ) (from : Putting) (row : Row) → Walking before from row buffer set walk
            → Walking before from (taken f row w) after marks (record { row = next; opened = None; top = 0 })
        go f before from (plain cells) g = none-set walk.opened k g.opened kind
        go f before from (within cells l i s) g =
            let same : l ≡ k = cc in
            let states = members-take 0 walk.top set g.clean ∙ g.marked in
            let zero = cleared-zero set marks walk.top g.clean c in
            rw (same, taken-closer f cells w k i s e)
            (record { put = row-then g.put (rw states at p); opened = refl; size = c.kept ∙ g.size; marked = members-none 0 marks zero; clean = λ j le. zero j })

    -- A word's states are put into it.
    pub within_word : {marks : List ℕ} {top : ℕ} → punct (closer k) w ≡ false → marks ≡ marked (states_taken (word_coded codes w)) set
        → top ≡ topped (states_taken (word_coded codes w)) walk.top → WordPut codes w buffer set walk buffer marks (record { row = walk.row; opened = Some k; top = top })
    unfolding cells_in open_in states_in
    within_word {marks} {top} e m t =
        record { kept = refl; within = rw t (topped-low new walk.top 96 (word-states codes w) low); grown = λ f same before from row g. go f same before from row g }
      where
        new : List ℕ
        new = states_taken (word_coded codes w)

        below : length set ≡ 96 → All (λ i. i < length set) new
        below size = rw size (word-states codes w)

        go : (f : Format) → word_coded codes w ≡ word_taken f w → (before : List ℕ) (from : Putting) (row : Row) → Walking before from row buffer set walk
            → Walking before from (taken f row w) buffer marks (record { row = walk.row; opened = Some k; top = top })
        go f same before from (plain cells) g = none-set walk.opened k g.opened kind
        go f same before from (within cells l i s) g =
            let one : l ≡ k = cc in
            rw (one, taken-states f cells w k i s e, ← same, m, t)
            (record { put = g.put; opened = refl; size = marked-length new set ∙ g.size; marked = marked-members new set (below g.size) ∙ ap (insert_all new) g.marked; clean = marked-clean new set walk.top g.clean })
