-- The cells of a part of a text, put behind those of a row one part after another; and those of a run of plain bytes among a token's text. Assumes
-- nothing.
use Prim.Native.Nat.{ℕ, ◌+◌, ◌*◌, ◌-◌, ◌≤◌, ◌<◌}
use Rattle.block.specs.Cell.{Cell}
use Rattle.emit.proofs.PutLaws.{byte-written, puts-as, puts_none, puts_then}
use Rattle.emit.specs.Puts.{Puts}
use Rattle.lexer.proofs.ListLaws.{drop-next}
use Rattle.lexer.proofs.PlainRuns.{PlainRun}
use Rattle.lexer.specs.Bytes.{left}
use Rattle.lexer.specs.declared.Cursor.{Cursor}
use Rattle.matrix.specs.Taken.{also}
use Rattle.reading.proofs.RowPieces.{CellsLeft, row-none, row-then, spell-on-append}
use Rattle.reading.proofs.ShortLaws.{Shorts, run_cells, shorts-more, shorts-none, spell-short}
use Rattle.reading.specs.CodedCells.{RowPut, cell_byte, cells_coded, decoded}
use Rattle.reading.specs.Pieces.{spell_on}
use Rattle.reading.specs.declared.cells.Putting.{Putting}
use lib.ListN.{length, get_or, set, take, drop, length-set}
use lib.Seq.{drop-drop, take-add}
use mathlib.Core.Bool.{true}
use mathlib.Core.List.{List, [], ◌∷◌, ◌++◌}
use mathlib.Core.Option.{Option, none, some}
use mathlib.Core.Path.{◌≡◌, refl, sym, ap, ◌∙◌}
use native.Mathlib.Omega.{arith}

-- A cell, if there is one, in front of others and more.
also-behind : (o : Option Cell) (xs ys : List Cell) → also o (xs ++ ys) ≡ also o xs ++ ys
unfolding also
also-behind none xs ys = refl
also-behind (some c) xs ys = refl

-- The cells of bytes behind others.
cells-append : (codes l r : List ℕ) → cells_coded codes (l ++ r) ≡ cells_coded codes l ++ cells_coded codes r
unfolding cells_coded
cells-append codes [] r = refl
cells-append codes (b ∷ l) r = ap (also (decoded (get_or codes b 0))) (cells-append codes l r) ∙ also-behind (decoded (get_or codes b 0)) (cells_coded codes l) (cells_coded codes r)

module _ (codes text : List ℕ) where
  -- The cells of a part: those up to a place, and those behind it.
  part-split : (i j e : ℕ) → i ≤ j → j ≤ e → run_cells codes text i e ≡ run_cells codes text i j ++ run_cells codes text j e
  part-split i j e h k =
      let whole : e - i ≡ j - i + (e - j) = omega arith in
      let there : i + (j - i) ≡ j = omega arith in
      let second = drop-drop (j - i) i text ∙ ap (λ n. drop n text) there in
      ap (λ n. cells_coded codes (take n (drop i text))) whole
      ∙ ap (cells_coded codes) (take-add (j - i) (e - j) (drop i text))
      ∙ cells-append codes (take (j - i) (drop i text)) (take (e - j) (drop (j - i) (drop i text)))
      ∙ ap (λ l. run_cells codes text i j ++ cells_coded codes (take (e - j) l)) second

  -- Two parts.
  pub part-both : {a b c : List ℕ} {row s t : Putting} (i j e : ℕ) → i ≤ j → j ≤ e → RowPut a row (run_cells codes text i j) b s → RowPut b s (run_cells codes text j e) c t
      → RowPut a row (run_cells codes text i e) c t
  part-both i j e h k p q = rw (part-split i j e h k) (row-then p q)

  -- An empty part, and a part of one byte.
  pub part_none : (i : ℕ) {buffer : List ℕ} {row : Putting} → RowPut buffer row (run_cells codes text i i) buffer row
  unfolding cells_coded
  part_none i = let z : i - i ≡ 0 = omega arith in rw z row-none

  pub part-one : {a b : List ℕ} {row s : Putting} (i : ℕ) → i < length text → RowPut a row (also (decoded (get_or codes (get_or text i 0) 0)) []) b s → RowPut a row (run_cells codes text i (i + 1)) b s
  unfolding cells_coded
  part-one i h p = let one : i + 1 - i ≡ 1 = omega arith in rw (one, drop-next text i h) p

  -- A cell of one byte behind others.
  one-short : (i : ℕ) → i < length text → (cell_byte (get_or codes (get_or text i 0) 0) ≡ 0 → ⊥) → (behind : List ℕ)
      → spell_on true (run_cells codes text i (i + 1)) behind ≡ 32 ∷ cell_byte (get_or codes (get_or text i 0) 0) ∷ behind
  unfolding cells_coded spell_on
  one-short i h s behind = let one : i + 1 - i ≡ 1 = omega arith in rw (one, drop-next text i h) (spell-short (get_or codes (get_or text i 0) 0) s [] behind)

  -- Where there is room cells of one byte each are written one by one.
  module _ (from end : ℕ) (before : List ℕ) (n : ℕ) where
    pub record Wrote (buffer : List ℕ) (at i : ℕ) : Type 0 where
      pub ahead : from ≤ i
      pub within : i ≤ end
      pub place : at ≡ n + 2 * (i - from)
      pub room : n + 2 * (end - from) ≤ length buffer
      pub kept : length buffer ≡ length before
      pub short : Shorts codes text from i
      pub written : Puts before n (spell_on true (run_cells codes text from i)) buffer at

    pub wrote-start : from ≤ end → n + 2 * (end - from) ≤ length before → Wrote before n from
    unfolding cells_coded spell_on
    wrote-start h r =
        let none : from - from ≡ 0 = omega arith in
        record { ahead = omega arith; within = h; place = omega arith; room = r; kept = refl; short = shorts-none codes text from; written = rw none puts_none }

    module _ {buffer : List ℕ} {at i : ℕ} (k : Wrote buffer at i) where
      pub wrote-turn : (b : ℕ) → b ≡ cell_byte (get_or codes (get_or text i 0) 0) → i < end → i < length text → (cell_byte (get_or codes (get_or text i 0) 0) ≡ 0 → ⊥) → Wrote (set (set buffer at 32) (at + 1) b) (at + 2) (i + 1)
      wrote-turn b e h here s =
          let ahead = k.ahead in
          let two : at + 1 + 1 ≡ at + 2 = omega arith in
          record {
            ahead = omega arith;
            within = omega arith;
            place = omega (arith, k.place);
            room = omega (arith, k.room, length-set buffer at 32, length-set (set buffer at 32) (at + 1) b);
            kept = length-set (set buffer at 32) (at + 1) b ∙ length-set buffer at 32 ∙ k.kept;
            short = shorts-more codes text from i k.short s;
            written = puts-as (rw two at (puts_then k.written (puts_then (byte-written buffer at 32) (byte-written (set buffer at 32) (at + 1) b))))
                (λ behind.
                ap (λ l. spell_on true (run_cells codes text from i) l) (sym (one-short i here s behind ∙ ap (λ x. 32 ∷ x ∷ behind) (sym e)))
                ∙ spell-on-append true (run_cells codes text from i) (run_cells codes text i (i + 1)) behind
                ∙ sym (ap (λ l. spell_on true l behind) (part-split from i (i + 1) ahead (omega arith))));
          }

  -- Whatever puts the cells from a place up to an end makes all from the first on put.
  module _ (from end : ℕ) where
    abbrev pub RunLeft : List ℕ → Putting → List ℕ → Putting → ℕ → Type 0
    RunLeft before row buffer now i =
        (after : List ℕ) (next : Putting) → RowPut buffer now (run_cells codes text i end) after next → RowPut before row (run_cells codes text from end) after next

    module _ {before : List ℕ} {row : Putting} {buffer : List ℕ} {now : Putting} (i : ℕ) (k : RunLeft before row buffer now i) where
      -- A part more was put; and none is left.
      pub run-part : {b : List ℕ} {s : Putting} (j : ℕ) → i ≤ j → j ≤ end → RowPut buffer now (run_cells codes text i j) b s → RunLeft before row b s j
      run-part j h l p after next q = k after next (rw (part-split i j end h l) (row-then p q))

      pub run-over : end ≤ i → RowPut before row (run_cells codes text from end) buffer now
      unfolding cells_coded
      run-over h = let none : end - i ≡ 0 = omega arith in k buffer now (rw none row-none)

  -- The cells of a run of plain bytes, among those of a token's text.
  pub cells-run : (start : ℕ) {before : List ℕ} {from : Putting} {buffer : List ℕ} {row : Putting} (c d : Cursor) → CellsLeft text codes start before from buffer row c
      → PlainRun text c d → {b : List ℕ} {s : Putting} → RowPut buffer row (run_cells codes text c.at d.at) b s → CellsLeft text codes start before from b s d
  cells-run start c d k r p after next q = k after next (rw (r.rest, cells-append codes (take (d.at - c.at) (drop c.at text)) (left text d)) (row-then p q))
