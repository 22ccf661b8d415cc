-- Words and whole sets that are told by their bytes at once and put behind a row, one after another. Assumes nothing.
use Rattle.std.specs.Prelude.{None, Some, is_some}
use Prim.Native.Nat.{ℕ, suc, ◌+◌, ◌-◌, ◌≤◌, ◌<◌}
use Rattle.block.specs.Cell.{Cell}
use Rattle.block.specs.Chunk.{set_cell}
use Rattle.block.specs.Commands.{newline}
use Rattle.block.specs.Format.{Format}
use Rattle.lexer.proofs.SmallBytes.{Small}
use Rattle.lexer.specs.PlainWords.{PlainWord, part, word_token}
use Rattle.lexer.specs.Stored.{word_of}
use Rattle.lexer.specs.Words.{is_line_end, is_mark, punct}
use Rattle.matrix.proofs.SetLaws.{open-line}
use Rattle.matrix.specs.Taken.{also}
use Rattle.matrix.specs.WholeSets.{SetClosed, bracket_of}
use Rattle.reading.proofs.RowSteps.{plain_word}
use Rattle.reading.proofs.RowWalks.{Rowing, WordsLeft, step-ahead, step_kept, step-on}
use Rattle.reading.proofs.WordCells.{plain-put}
use Rattle.reading.specs.CodedCells.{RowPut, cells_coded, codes_of, decoded}
use Rattle.reading.specs.RowWalk.{AheadPut, ToldPut, full, full_with, more_told, none_told, nothing_put, one_word, plain_walk, told_put, whole_set}
use Rattle.reading.specs.declared.cells.Putting.{Putting}
use Rattle.reading.specs.declared.lines.Walk.{Walk}
use Rattle.std.specs.Prelude as Std
use Rattle.block.specs.declared.kinds.Bracket.{Bracket}
use borrow.Author.Tests.{ne_eqb}
use lib.ListN.{length, get_or, drop, length-take}
use mathlib.Core.Bool.{true, false, false≢true}
use mathlib.Core.List.{List, [], ◌∷◌}
use mathlib.Core.Option.{Option, none, some}
use mathlib.Core.Path.{◌≡◌, refl, ap, ◌∙◌}
use native.Mathlib.Nat.{min-le_left}
use native.Mathlib.Omega.{arith}

-- Bytes have no more cells than they are.
cells-few : (codes l : List ℕ) → length (cells_coded codes l) ≤ length l
unfolding cells_coded
cells-few codes [] = omega arith
cells-few codes (b ∷ r) = go (decoded (get_or codes b 0)) (cells_coded codes r) (cells-few codes r)
  where
    go : (o : Option Cell) (cs : List Cell) → length cs ≤ length r → length (also o cs) ≤ suc (length r)
    go none cs h = unfold also in (omega arith)
    go (some c) cs h = unfold also in (omega arith)

module _ {codes text starts : List ℕ} {to : ℕ} {before : List ℕ} {row : Putting} {from : ℕ} {b : List ℕ} {r : Putting} {i : ℕ} (k : ToldPut codes text starts to before row from b r i) (h : i < to) where
  -- One word more.
  module _ (start end : ℕ) (at : start ≡ get_or starts i 0) (w : PlainWord text start end) where
    kind : (word_of text starts i).token ≡ word_token (part text start end)
    unfolding word_of
    kind = rw (← at) w.told

    pub told-word : {c : List ℕ} {s : Putting} → end - start < r.left → RowPut b r (cells_coded codes (part text start end)) c s → ToldPut codes text starts to before row from c s (i + 1)
    unfolding newline is_line_end punct is_mark
    told-word lacking p =
        let few = cells-few codes (part text start end) in
        let size = length-take (end - start) (drop start text) in
        let less = min-le_left (end - start) (length (drop start text)) in
        let line : newline (word_of text starts i) ≡ false = rw kind refl in
        let brace : punct 123 (word_of text starts i) ≡ false = rw kind refl in
        let round : punct 40 (word_of text starts i) ≡ false = rw kind refl in
        more_told k h line (λ set top low. one_word refl (plain_word (word_of text starts i) low refl brace round (plain-put text starts i start at codes end w p)))
        (λ z. omega (arith, p.lacking, few, size, less))

  -- A whole set more.
  pub told-set : {c : List ℕ} {s : Putting} (end : ℕ) → SetClosed codes text starts i to end → 1 < r.left
      → RowPut b r (set_cell (bracket_of (get_or text (get_or starts i 0) 0)) (codes_of codes (part text (get_or starts i 0 + 1) end)) ∷ []) c s → ToldPut codes text starts to before row from c s (i + 3)
  told-set end w lacking p =
      more_told k h (open-line w.whole)
      (λ set top low. whole_set refl (record { kind = _; states = _; words = w.whole; none = refl; put = p; opened = refl; top = refl; same = refl }))
      (λ z. omega (arith, p.lacking))

-- The buffer keeps its length, and the index does not go back.
told-kept : {codes text starts : List ℕ} {to : ℕ} {before : List ℕ} {row : Putting} {from : ℕ} {b : List ℕ} {r : Putting} {i : ℕ} → ToldPut codes text starts to before row from b r i
    → (length b ≡ length before) × (from ≤ i)
told-kept none_told = (refl, omega arith)
told-kept (more_told k h w s l) = let e = told-kept k in let a = step-ahead (s [] 0 (omega arith)) in (step_kept (s [] 0 (omega arith)) ∙ e.0, omega (arith, e.1))

-- What was put so far goes on to what is put now.
module _ {codes text starts : List ℕ} {to : ℕ} {first : List ℕ} {start : Putting} {whole : Format → List Cell} {set : List ℕ} (small : Small text) where
  told-rowing : {before : List ℕ} {row : Putting} {from top : ℕ} {b : List ℕ} {r : Putting} {i : ℕ} → ToldPut codes text starts to before row from b r i → top ≤ 96
      → Rowing codes first start whole (WordsLeft text starts to start.left from) before set (plain_walk row top)
      → Rowing codes first start whole (WordsLeft text starts to start.left i) b set (plain_walk r top)
  unfolding full full_with
  told-rowing none_told low g = g
  told-rowing {top = top} (more_told k h w s l) low g = step-on h small w (s set top low) (told-rowing k low g) (ne_eqb _ 0 l)

  pub ahead-rowing : {i : ℕ} {buffer : List ℕ} {walk : Walk} {after : List ℕ} {next : Walk} {j : ℕ} → AheadPut codes text starts to i buffer walk after next j
      → Rowing codes first start whole (WordsLeft text starts to start.left i) buffer set walk
      → Rowing codes first start whole (WordsLeft text starts to start.left j) after set next
  ahead-rowing nothing_put g = g
  ahead-rowing (told_put e t) g = let k = rw e at g in told-rowing t k.low k

pub ahead-on : {codes text starts : List ℕ} {to i : ℕ} {buffer : List ℕ} {walk : Walk} {after : List ℕ} {next : Walk} {j : ℕ} → AheadPut codes text starts to i buffer walk after next j → i ≤ j
ahead-on nothing_put = omega arith
ahead-on (told_put e t) = (told-kept t).1

-- A row in which no set is open is told by its cells.
pub plain_known : (walk : Walk) → walk.opened ≡ None → walk ≡ plain_walk walk.row walk.top
plain_known walk e = ap (λ (o : Std.Option Bracket). record { row = walk.row; opened = o; top = walk.top }) e

-- A row is not full while a set is open.
pub open-short : (o : Std.Option Bracket) (left : ℕ) → is_some o ≡ true → false ≡ full_with o left
unfolding full_with
open-short None left e = absurd (false≢true e)
open-short (Some k) left e = refl
