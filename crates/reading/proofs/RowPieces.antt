-- Cells that are put behind those of a row: none, one, one list behind another, and those of a token's text, one after another. Assumes nothing.
use Prim.Native.Nat.{ℕ, ◌-◌}
use Rattle.block.specs.Cell.{Cell}
use Rattle.emit.proofs.PutLaws.{puts-as, puts_none, puts_then}
use Rattle.emit.specs.Puts.{Puts}
use Rattle.lexer.proofs.Basics.{or_assoc, or-false, or-true}
use Rattle.lexer.proofs.NextBytes.{front-left}
use Rattle.lexer.proofs.Yielded.{YieldsByte}
use Rattle.lexer.specs.Base.{is_empty, given, pick}
use Rattle.lexer.specs.Bytes.{front_at, left}
use Rattle.lexer.specs.Lexing.{token_at}
use Rattle.lexer.specs.declared.Cursor.{Cursor}
use Rattle.matrix.specs.Taken.{also}
use Rattle.reading.specs.CodedCells.{RowPut, cells_coded, decoded, spell_maybe}
use Rattle.reading.specs.Pieces.{spell_on}
use Rattle.reading.specs.declared.cells.Putting.{Putting}
use Rattle.record.specs.Spell.{spell_cell}
use lib.ListN.{get_or, length-append}
use mathlib.Core.Bool.{Bool, true, false, ◌||◌, not, false≢true, true≢false}
use mathlib.Core.List.{List, [], ◌∷◌, ◌++◌}
use mathlib.Core.Option.{Option, none, some}
use mathlib.Core.Path.{◌≡◌, refl, sym, ap, ◌∙◌}
use native.Mathlib.Omega.{arith}

-- Cells behind others.
pub spell-on-append : (b : Bool) (xs ys : List Cell) (behind : List ℕ) → spell_on b xs (spell_on (b || not (is_empty xs)) ys behind) ≡ spell_on b (xs ++ ys) behind
unfolding spell_on is_empty pick
spell-on-append b [] ys behind = rw (or-false b)
spell-on-append b (x ∷ xs) ys behind = rw (or-true b, spell-on-append true xs ys behind)

begun-append : (xs ys : List Cell) → not (is_empty xs) || not (is_empty ys) ≡ not (is_empty (xs ++ ys))
unfolding is_empty
begun-append [] ys = refl
begun-append (x ∷ xs) ys = refl

module _ {a : List ℕ} {row : Putting} where
  pub row-none : RowPut a row [] a row
  unfolding spell_on is_empty
  row-none = record { put = puts_none; begun = sym (or-false row.started); lacking = omega arith }

  pub row-then : {b c : List ℕ} {s t : Putting} {xs ys : List Cell} → RowPut a row xs b s → RowPut b s ys c t → RowPut a row (xs ++ ys) c t
  row-then {xs = xs} {ys = ys} p q =
      record {
        put = puts-as (puts_then p.put q.put) (λ behind. ap (λ b. spell_on row.started xs (spell_on b ys behind)) p.begun ∙ spell-on-append row.started xs ys behind);
        begun = q.begun ∙ ap (λ b. b || not (is_empty ys)) p.begun ∙ sym (or_assoc row.started (not (is_empty xs)) (not (is_empty ys))) ∙ ap (λ b. row.started || b) (begun-append xs ys);
        lacking = omega (arith, p.lacking, q.lacking, length-append xs ys);
      }

  -- One cell, with a blank before it if others were put.
  pub row_one : {b d : List ℕ} {m k l : ℕ} (c : Cell) → Puts a row.at (λ behind. pick row.started (32 ∷ behind) behind) b m
      → Puts b m (λ behind. spell_cell c ++ behind) d k → l ≡ row.left - 1 → RowPut a row (c ∷ []) d (record { at = k; started = true; left = l })
  unfolding spell_on is_empty pick
  row_one c p q e = record { put = puts-as (puts_then p q) (λ behind. refl); begun = sym (or-true row.started); lacking = omega arith }

also-append : (o : Option Cell) (cs : List Cell) → also o [] ++ cs ≡ also o cs
unfolding also
also-append none cs = refl
also-append (some c) cs = refl

-- Whatever puts the cells of what is left of a token's text makes all of them put.
abbrev pub CellsLeft : List ℕ → List ℕ → ℕ → List ℕ → Putting → List ℕ → Putting → Cursor → Type 0
CellsLeft text codes start before from buffer row c =
    (after : List ℕ) (next : Putting) → RowPut buffer row (cells_coded codes (left text c)) after next → RowPut before from (cells_coded codes (token_at text start).text) after next

module _ (text codes : List ℕ) (start : ℕ) where
  pub cells-start : {before : List ℕ} {from : Putting} (c : Cursor) → c ≡ front_at text start → CellsLeft text codes start before from before from c
  cells-start c e after next p = rw (front-left text start c e) at p

  module _ {before : List ℕ} {from : Putting} {buffer : List ℕ} {row : Putting} (c : Cursor) (k : CellsLeft text codes start before from buffer row c) where
    pub cells-turn : {b : List ℕ} {s : Putting} (x : ℕ) (d : Cursor) → YieldsByte text c.at (left text c) x d
        → RowPut buffer row (also (decoded (get_or codes x 0)) []) b s → CellsLeft text codes start before from b s d
    unfolding cells_coded
    cells-turn x d y p after next q = k after next (rw (y.here, ← also-append (decoded (get_or codes x 0)) (cells_coded codes (left text d))) (row-then p q))

    pub cells-end : left text c ≡ [] → RowPut before from (cells_coded codes (token_at text start).text) buffer row
    unfolding cells_coded
    cells-end e = k buffer row (rw e row-none)

-- The cell of a code, if it has one, with a blank before it if others were put.
module _ {a : List ℕ} {row : Putting} (code : ℕ) where
  pub cell-none : given (decoded code) ≡ false → RowPut a row (also (decoded code) []) a row
  cell-none h = go (decoded code) h
    where
      go : (o : Option Cell) → given o ≡ false → RowPut a row (also o []) a row
      go none h = unfold also in row-none
      go (some c) h = absurd (true≢false (unfold given in h))

  pub cell-put : {b d : List ℕ} {m k l : ℕ} → given (decoded code) ≡ true → Puts a row.at (λ behind. pick row.started (32 ∷ behind) behind) b m
      → Puts b m (spell_maybe (decoded code)) d k → l ≡ row.left - 1 → RowPut a row (also (decoded code) []) d (record { at = k; started = true; left = l })
  unfolding given also spell_maybe
  cell-put {b} {d} {m} {k} {l} h p q e = go (decoded code) h q
    where
      go : (o : Option Cell) → given o ≡ true → Puts b m (spell_maybe o) d k → RowPut a row (also o []) d (record { at = k; started = true; left = l })
      go none h q = absurd (false≢true h)
      go (some c) h q = row_one c p q e
