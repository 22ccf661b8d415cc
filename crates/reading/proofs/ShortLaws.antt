-- Cells of one byte each, put behind those of a row: how they are spelled, where they are only counted, and where they are written. Assumes nothing.
use Rattle.std.specs.Prelude.{None, Some, is_some}
use Rattle.std.specs.Prelude as Std
use Prim.Native.Nat.{ℕ, zero, suc, ◌+◌, ◌*◌, ◌-◌, ◌^◌, ◌≤◌, ◌<◌, min}
use Rattle.block.specs.Cell.{Cell}
use Rattle.emit.proofs.DecimalMade.{decimal-one}
use Rattle.emit.proofs.PutLaws.{puts-out}
use Rattle.emit.specs.Puts.{Puts, last_place}
use Rattle.lexer.proofs.Basics.{by-test}
use Rattle.lexer.proofs.ListLaws.{drop-next}
use Rattle.lexer.specs.Base.{given, pick}
use Rattle.matrix.specs.Taken.{also}
use Rattle.reading.proofs.DecodedLaws.{decoded-state}
use Rattle.reading.specs.CodedCells.{RowPut, cell_byte, cells_coded, decoded, spell_maybe}
use Rattle.reading.specs.Pieces.{spell_on}
use Rattle.reading.specs.declared.cells.Putting.{Putting}
use Rattle.record.specs.Spell.{spell_cell}
use borrow.Author.Tests.{le-ltb, lt-ltb, ne_eqb, eqb-false, eqb-true, leb-false, leb-true, ltb-true}
use lib.Dec.{eqb, leb, ltb}
use lib.ListN.{length, get_or, take, drop}
use mathlib.Core.Bool.{true, false≢true}
use mathlib.Core.List.{List, [], ◌∷◌, ◌++◌}
use mathlib.Core.Option.{Option, none, some}
use mathlib.Core.Path.{◌≡◌, refl, sym, ap, ◌∙◌}
use native.Mathlib.Omega.{arith}

-- The byte of a cell that takes one byte.
abbrev pub maybe : ℕ → Std.Option ℕ
maybe b = pick (eqb b 0) None (Some b)

module _ (code : ℕ) where
  pub byte-state : code < 10 → Some (48 + code) ≡ maybe (cell_byte code)
  unfolding cell_byte pick
  byte-state h = rw (lt-ltb code 10 h, ne_eqb (48 + code) 0 (λ e. omega arith))

  pub byte-missing : code ≡ 126 → Some 109 ≡ maybe (cell_byte code)
  unfolding cell_byte pick
  byte-missing e = rw e

  pub byte-gap : code ≡ 127 → Some 103 ≡ maybe (cell_byte code)
  unfolding cell_byte pick
  byte-gap e = rw e

  pub byte-other : 10 ≤ code → (code ≡ 126 → ⊥) → (code ≡ 127 → ⊥) → None ≡ maybe (cell_byte code)
  unfolding cell_byte pick
  byte-other h m g = rw (le-ltb code 10 h, ne_eqb code 126 m, ne_eqb code 127 g)

-- There is one, or none.
module _ (n : ℕ) where
  pub byte-given : (b : ℕ) → Some b ≡ maybe n → (b ≡ n) × (n ≡ 0 → ⊥)
  unfolding pick
  byte-given b e =
      by-test (eqb n 0)
      (λ t. let no : ◌≡◌ {A = Std.Option ℕ} (Some b) None = rw t at e in absurd cc)
      (λ f. let yes : Some b ≡ Some n = rw f at e in (cc, eqb-false n 0 f))

  pub byte-some : {o : Std.Option ℕ} → o ≡ maybe n → is_some o ≡ true → n ≡ 0 → ⊥
  unfolding pick
  byte-some e h z = false≢true (rw (e, z) at h)

  pub byte-none : None ≡ maybe n → n ≡ 0
  unfolding pick
  byte-none e =
      by-test (eqb n 0) (λ t. eqb-true n 0 t)
      (λ f. let no : ◌≡◌ {A = Std.Option ℕ} None (Some n) = rw f at e in absurd cc)

-- What a code is whose cell is of one byte.
module _ (code : ℕ) (P : Type 0) where
  short-cases : (cell_byte code ≡ 0 → ⊥) → (ltb code 10 ≡ true → P) → (code ≡ 126 → P) → (code ≡ 127 → P) → P
  unfolding cell_byte pick
  short-cases s state missing gap =
      by-test (ltb code 10) state
      (λ f. by-test (eqb code 126) (λ t. missing (eqb-true code 126 t))
      (λ g. by-test (eqb code 127) (λ t. gap (eqb-true code 127 t))
      (λ h. absurd (s (rw (f, g, h))))))

module _ (code : ℕ) (s : cell_byte code ≡ 0 → ⊥) where
  -- Such a code has a cell, and the cell is spelled by its byte.
  short-given : given (decoded code) ≡ true
  unfolding given decoded pick
  short-given = short-cases code _ s (λ t. let low = ltb-true code 10 t in ap given (decoded-state code (omega arith))) (λ e. rw e) (λ e. rw e)

  pub short-spell : (behind : List ℕ) → spell_maybe (decoded code) behind ≡ cell_byte code ∷ behind
  unfolding spell_maybe spell_cell cell_byte decoded pick
  short-spell behind = short-cases code _ s (λ t. let low = ltb-true code 10 t in state t low) (λ e. rw e) (λ e. rw e)
    where
      state : ltb code 10 ≡ true → code < 10 → spell_maybe (decoded code) behind ≡ cell_byte code ∷ behind
      state t low = ap (λ o. spell_maybe o behind) (decoded-state code (omega arith)) ∙ ap (λ l. l ++ behind) (decimal-one code low) ∙ sym (rw t)

-- A code whose cell is not of one byte is none of these.
pub long-missing : (code : ℕ) → cell_byte code ≡ 0 → code ≡ 126 → ⊥
unfolding cell_byte pick
long-missing code z e = let y : ◌≡◌ {A = ℕ} 109 0 = rw e at z in omega arith

pub long-gap : (code : ℕ) → cell_byte code ≡ 0 → code ≡ 127 → ⊥
unfolding cell_byte pick
long-gap code z e = let y : ◌≡◌ {A = ℕ} 103 0 = rw e at z in omega arith

-- A cell behind others of a row.
spell-some : (o : Option Cell) (cs : List Cell) (behind : List ℕ) → given o ≡ true → spell_on true (also o cs) behind ≡ 32 ∷ spell_maybe o (spell_on true cs behind)
unfolding given also spell_on spell_maybe pick
spell-some none cs behind h = absurd (false≢true h)
spell-some (some c) cs behind h = refl

-- It is one more cell.
count-some : (o : Option Cell) (cs : List Cell) → given o ≡ true → length (also o cs) ≡ suc (length cs)
unfolding given also
count-some none cs h = absurd (false≢true h)
count-some (some c) cs h = refl

-- A cell of one byte behind others is a blank and that byte.
pub spell-short : (code : ℕ) → (cell_byte code ≡ 0 → ⊥) → (cs : List Cell) (behind : List ℕ) → spell_on true (also (decoded code) cs) behind ≡ 32 ∷ cell_byte code ∷ spell_on true cs behind
spell-short code s cs behind = spell-some (decoded code) cs behind (short-given code s) ∙ ap (λ l. 32 ∷ l) (short-spell code s (spell_on true cs behind))

-- The cells of the bytes from a place up to another are of one byte each.
pub record Shorts (codes text : List ℕ) (i e : ℕ) : Type 0 where
  pub each : (k : ℕ) → i ≤ k → k < e → cell_byte (get_or codes (get_or text k 0) 0) ≡ 0 → ⊥

module _ (codes text : List ℕ) where
  -- The cells of the bytes from a place up to another.
  abbrev pub run_cells : ℕ → ℕ → List Cell
  run_cells i e = cells_coded codes (take (e - i) (drop i text))

  -- None are; and one more is.
  pub shorts-none : (i : ℕ) → Shorts codes text i i
  shorts-none i = record { each = λ k p q z. omega arith }

  pub shorts-more : (i e : ℕ) → Shorts codes text i e → (cell_byte (get_or codes (get_or text e 0) 0) ≡ 0 → ⊥) → Shorts codes text i (e + 1)
  shorts-more i e s new =
      record {
        each = λ k p q z. by-test (eqb k e) (λ t. new (rw (eqb-true k e t) at z)) (λ f. let other = eqb-false k e f in s.each k p (omega (arith, other)) z);
      }

  -- How many there are, and how long they are.
  record Counted (m : ℕ) (cs : List Cell) : Type 0 where
    count : length cs ≡ m
    size : (behind : List ℕ) → length (spell_on true cs behind) ≡ 2 * m + length behind

  -- None, one more, and all of a part.
  counted_none : Counted 0 (cells_coded codes [])
  unfolding cells_coded spell_on
  counted_none = record { count = refl; size = λ behind. omega arith }

  counted-more : (m b : ℕ) (r : List ℕ) → (cell_byte (get_or codes b 0) ≡ 0 → ⊥) → Counted m (cells_coded codes r) → Counted (suc m) (cells_coded codes (b ∷ r))
  unfolding cells_coded
  counted-more m b r s k =
      record {
        count = count-some (decoded (get_or codes b 0)) (cells_coded codes r) (short-given (get_or codes b 0) s) ∙ ap suc k.count;
        size = λ behind. ap length (spell-short (get_or codes b 0) s (cells_coded codes r) behind) ∙ omega (arith, k.size behind);
      }

  counted : (m i : ℕ) → i + m ≤ length text → Shorts codes text i (i + m) → Counted m (cells_coded codes (take m (drop i text)))
  counted zero i h s = counted_none
  counted (suc m) i h s =
      let here : i < length text = omega arith in
      rw (drop-next text i here) (counted-more m (get_or text i 0) (take m (drop (i + 1) text)) (s.each i (omega arith) (omega arith)) (counted m (i + 1) (omega arith) (record { each = λ k p q. s.each k (omega arith) (omega arith) })))

  -- Behind the buffer's end they are only counted.
  module _ (i e : ℕ) (ahead : i ≤ e) (within : e - i ≤ length text - i) (short : Shorts codes text i e) where
    all : Counted (e - i) (run_cells i e)
    all =
        by-test (leb i (length text))
        (λ t. let h = leb-true i (length text) t in counted (e - i) i (omega arith) (record { each = λ k p q. short.each k p (omega arith) }))
        (λ f. let h = leb-false i (length text) f in let none : e - i ≡ 0 = omega arith in rw none counted_none)

    module _ (row : Putting) (begun : row.started ≡ true) where
      -- Cells that are put behind others make a row with so many fewer lacking.
      pub short_row : {before after : List ℕ} {n : ℕ} → Puts before row.at (spell_on true (run_cells i e)) after n
          → RowPut before row (run_cells i e) after (record { at = n; started = true; left = row.left - (e - i) })
      short_row p = record { put = rw begun p; begun = rw begun; lacking = ap (λ n. row.left - n) (sym all.count) }

      -- The next place is two further for each.
      pub short-beyond : {buffer : List ℕ} (n : ℕ) → length buffer ≤ row.at → length buffer ≤ 2 ^ 64 - 1 → n ≡ min last_place (row.at + 2 * (e - i))
          → Puts buffer row.at (spell_on true (run_cells i e)) buffer n
      unfolding last_place
      short-beyond {buffer} n far fits at =
          record {
            written = λ behind. puts-out buffer row.at (spell_on true (run_cells i e) behind) far ∙ sym (puts-out buffer n behind (omega arith));
            reached = λ behind. omega (arith, all.size behind);
            kept = refl;
          }
