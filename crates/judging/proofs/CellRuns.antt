-- Cells of one byte, each with a blank behind it: eight of them, and a walk over them. Assumes nothing.
use Prim.Native.Nat.{ℕ, zero, suc, ◌+◌, ◌*◌, ◌-◌, ◌≤◌, ◌<◌}
use Rattle.block.specs.Cell.{state}
use Rattle.block.specs.Sound.{sound_cell}
use Rattle.emit.proofs.DecimalMade.{decimal-one}
use Rattle.judging.proofs.CellsJudged.{moves-then, moves-whole}
use Rattle.judging.proofs.CellsRun.{cell-ends}
use Rattle.judging.specs.CellModes.{Moves, Whole, blanks, is_digit, ends, run, step, step_fresh, within}
use Rattle.judging.specs.CellRuns.{AllHeld, gaps, held}
use Rattle.judging.specs.declared.cells.Mode.{Mode}
use Rattle.judging.specs.declared.cells.Walk.{Walk}
use Rattle.lexer.proofs.Basics.{and_left, and_right, by-test, or_assoc}
use Rattle.lexer.specs.Base.{among, pick}
use Rattle.record.specs.Decimal.{decimal}
use Rattle.record.specs.Spell.{spell_cell}
use borrow.Author.Tests.{eqb-true, leb-true, lt-ltb, ltb-false, ltb-true}
use lib.Dec.{eqb, leb, ltb}
use lib.ListN.{length, drop, get_or}
use mathlib.Core.Bool.{Bool, true, false, ◌&&◌, ◌||◌, false≢true}
use mathlib.Core.List.{List, [], ◌∷◌}
use mathlib.Core.Path.{◌≡◌, refl, sym, ap, ◌∙◌}
use native.Mathlib.Numerals.{add-one}
use native.Mathlib.Omega.{arith}

-- None, and one more.
pub held_none : (b : List ℕ) (at : ℕ) (low high one other : List ℕ) → AllHeld b at low high one other 0
held_none b at low high one other = record { each = λ i h. absurd (omega arith) }

pub held_more : (b : List ℕ) (at : ℕ) (low high one other : List ℕ) (all : Bool) (i : ℕ) → (all ≡ true → AllHeld b at low high one other i)
    → all && held (get_or low i 0) (get_or high i 0) (get_or one i 0) (get_or other i 0) (get_or b (at + i) 0) ≡ true → AllHeld b at low high one other (i + 1)
held_more b at low high one other all i so both = record { each = each }
  where
    this : Bool
    this = held (get_or low i 0) (get_or high i 0) (get_or one i 0) (get_or other i 0) (get_or b (at + i) 0)

    each : (j : ℕ) → j < i + 1 → held (get_or low j 0) (get_or high j 0) (get_or one j 0) (get_or other j 0) (get_or b (at + j) 0) ≡ true
    each j h =
        by-test (ltb j i)
        (λ t. (so (and_left all this both)).each j (ltb-true j i t))
        (λ f. let n = ltb-false j i f in let e : j ≡ i = omega arith in rw e (and_right all this both))

pub gaps-more : (b : List ℕ) (at i : ℕ) (gap : Bool) → gap ≡ gaps b at i → gap || eqb (get_or b (at + 2 * i) 0) 103 ≡ gaps b at (i + 1)
gaps-more b at i gap e = rw (add-one, e) refl

-- A byte and a blank, so many times: the bytes that such cells are held against.
abbrev pub pairs : ℕ → ℕ → List ℕ
pairs x zero = []
pairs x (suc n) = x ∷ 32 ∷ pairs x n

pairs-at : (x n j : ℕ) → j < n → (get_or (pairs x n) (2 * j) 0 ≡ x) × (get_or (pairs x n) (2 * j + 1) 0 ≡ 32)
pairs-at x zero j h = absurd (omega arith)
pairs-at x (suc n) zero h = (refl, refl)
pairs-at x (suc n) (suc j) h =
    let even : 2 * suc j ≡ suc (suc (2 * j)) = omega arith in
    let odd : 2 * suc j + 1 ≡ suc (suc (2 * j + 1)) = omega arith in
    let so = pairs-at x n j (omega arith) in
    (ap (λ k. get_or (pairs x (suc n)) k 0) even ∙ so.0, ap (λ k. get_or (pairs x (suc n)) k 0) odd ∙ so.1)

-- A byte that is held is between, or one of the two.
held-cases : (P : Type 0) (a c d : Bool) → (a ≡ true → P) → (c ≡ true → P) → (d ≡ true → P) → a || c || d ≡ true → P
held-cases P true c d f g h e = f refl
held-cases P false true d f g h e = g refl
held-cases P false false d f g h e = h e

held-blank : (x : ℕ) → held 32 32 32 32 x ≡ true → x ≡ 32
held-blank x =
    held-cases (x ≡ 32) (leb 32 x && leb x 32) (eqb x 32) (eqb x 32)
    (λ t. let low = leb-true 32 x (and_left (leb 32 x) (leb x 32) t) in let high = leb-true x 32 (and_right (leb 32 x) (leb x 32) t) in omega arith)
    (λ t. eqb-true x 32 t)
    (λ t. eqb-true x 32 t)

-- A walk over such cells.
module _ (b : List ℕ) (count top : ℕ) (digit : top ≤ 57) (below : top < 48 + count) where
  -- Such a byte is a cell.
  digit-ends : (x : ℕ) → 48 ≤ x → x ≤ top → ends (step count Mode.Fresh x) ≡ true
  unfolding spell_cell run sound_cell
  digit-ends x low high =
      let d = x - 48 in
      let same : 48 + d ≡ x = omega arith in
      let one : decimal d ≡ x ∷ [] = decimal-one d (omega arith) ∙ ap (λ n. n ∷ []) same in
      rw one at (cell-ends count (state d) (lt-ltb d count (omega arith)))

  letter-ends : (x : ℕ) → x ≡ 109 → ends (step count Mode.Fresh x) ≡ true
  unfolding ends step within step_fresh is_digit pick
  letter-ends x e = rw e refl

  gap_ends : (x : ℕ) → x ≡ 103 → ends (step count Mode.Fresh x) ≡ true
  unfolding ends step within step_fresh is_digit pick
  gap_ends x e = rw e refl

  held-ends : (x : ℕ) → held 48 top 109 103 x ≡ true → ends (step count Mode.Fresh x) ≡ true
  held-ends x =
      held-cases (ends (step count Mode.Fresh x) ≡ true) (leb 48 x && leb x top) (eqb x 109) (eqb x 103)
      (λ t. digit-ends x (leb-true 48 x (and_left (leb 48 x) (leb x top) t)) (leb-true x top (and_right (leb 48 x) (leb x top) t)))
      (λ t. letter-ends x (eqb-true x 109 t))
      (λ t. gap_ends x (eqb-true x 103 t))

  -- Eight of them.
  module _ (at : ℕ) (room : at + 16 ≤ length b) (all : AllHeld b at (pairs 48 8) (pairs top 8) (pairs 109 8) (pairs 103 8) 16) where
    cell_at : (j : ℕ) → j < 8 → held 48 top 109 103 (get_or b (at + 2 * j) 0) ≡ true
    cell_at j h = rw ((pairs-at 48 8 j h).0, (pairs-at top 8 j h).0, (pairs-at 109 8 j h).0, (pairs-at 103 8 j h).0) at (all.each (2 * j) (omega arith))

    blank-at : (j : ℕ) → j < 8 → held 32 32 32 32 (get_or b (at + (2 * j + 1)) 0) ≡ true
    blank-at j h = rw ((pairs-at 48 8 j h).1, (pairs-at top 8 j h).1, (pairs-at 109 8 j h).1, (pairs-at 103 8 j h).1) at (all.each (2 * j + 1) (omega arith))

    no-line : (j : ℕ) → j < 8 → get_or b (at + 2 * j) 0 ≡ 10 → ⊥
    no-line j h e = false≢true (rw e at (cell_at j h))

    eight-whole : (j : ℕ) → j < 8 → Whole b (at + 2 * j) count
    eight-whole j h =
        let next : at + (2 * j + 1) ≡ at + 2 * j + 1 = omega arith in
        record {
          inside = omega arith;
          blank = ap (λ n. get_or b n 0) (sym next) ∙ held-blank _ (blank-at j h);
          whole = held-ends _ (cell_at j h);
        }

    module _ (w : Walk) (here : w.at ≡ at) (fresh : w.mode ≡ Mode.Fresh) where
      abbrev past : ℕ → Walk
      past n = record { at = at + 2 * n; mode = Mode.Fresh; blanks = w.blanks + n; gap = w.gap || gaps b at n }

      past-none : Moves b count w (past 0)
      unfolding run blanks among
      past-none =
          let same : at + 2 * 0 ≡ w.at = omega arith in
          record { read = []; here = ap (λ k. drop k b) (sym same); ahead = omega arith; mode = sym fresh; blanks = omega arith; gap = refl; line = refl }

      past_more : (n : ℕ) → n < 8 → Moves b count w (past n) → Moves b count w (past (suc n))
      past_more n h so =
          let cell = eight-whole n h in
          let x = get_or b (at + 2 * n) 0 in
          let far : at + 2 * n + 2 ≡ at + 2 * suc n = omega arith in
          let many : w.blanks + n + 1 ≡ w.blanks + suc n = omega arith in
          let gap : (w.gap || gaps b at n) || eqb x 103 ≡ w.gap || (gaps b at n || eqb x 103) = sym (or_assoc w.gap (gaps b at n) (eqb x 103)) in
          let step = moves-whole b count (past n) (omega (arith, cell.inside)) (λ e. no-line n h e) refl cell in
          moves-then b count so (rw (far, many, gap) at step)

      past-eight : Moves b count w (past 8)
      past-eight = go 8 (omega arith)
        where
          go : (n : ℕ) → n ≤ 8 → Moves b count w (past n)
          go zero h = past-none
          go (suc n) h = past_more n (omega arith) (go n (omega arith))

  -- A walk that went on over eight of them.
  pub moves-eight : {w : Walk} (at : ℕ) → at + 16 ≤ length b → AllHeld b at (pairs 48 8) (pairs top 8) (pairs 109 8) (pairs 103 8) 16 → (many : ℕ) (any gap : Bool)
      → gap ≡ gaps b at 8 → Moves b count w (record { at = at; mode = Mode.Fresh; blanks = many; gap = any })
      → Moves b count w (record { at = at + 16; mode = Mode.Fresh; blanks = many + 8; gap = any || gap })
  moves-eight at room all many any gap told so =
      moves-then b count so (rw told (past-eight at room all (record { at = at; mode = Mode.Fresh; blanks = many; gap = any }) refl refl))
