-- A walk over the bytes of a row, and what it tells where it ends. Assumes nothing.
use Rattle.std.specs.Prelude.{Some, None, Option}
use Rattle.std.proofs.lemmas.Option.{some_pair_parts}
use Prim.Native.Nat.{ℕ, ◌+◌, ◌≤◌, ◌<◌}
use Rattle.block.specs.Cell.{Cell}
use Rattle.block.specs.Sound.{gap_among, sound_cells}
use Rattle.judging.proofs.CellCounts.{blanks-append, blanks-few, cells-blanks, cells-gap}
use Rattle.judging.proofs.CellModeLaws.{cell-unblank, run-append, step-blank}
use Rattle.judging.proofs.CellsFit.{row_read}
use Rattle.judging.proofs.CellsRun.{cells-end}
use Rattle.judging.specs.CellModes.{Moves, Whole, blanks, ends, row_end, run, step}
use Rattle.judging.specs.CellsJudged.{CellsJudged, CellsStand}
use Rattle.judging.specs.declared.cells.Mode.{Mode}
use Rattle.judging.specs.declared.cells.Walk.{Walk}
use Rattle.lexer.proofs.Basics.{among-append, and_both, and_left, and_right, by-test, eqb-sym, not-both, or_assoc, or-both, or-false, or_left, or_right, or-second, pick_first}
use Rattle.lexer.proofs.ListLaws.{drop-next}
use Rattle.lexer.specs.Base.{among, pick}
use Rattle.record.proofs.CellLaws.{cells-clean}
use Rattle.record.specs.Spell.{spell_cells}
use borrow.Author.Tests.{eq-eqb, eqb-false, eqb-true, ne_eqb}
use lib.Dec.{eqb}
use lib.ListN.{length, drop, get_or, length-append, drop_of_length-le}
use mathlib.Core.Bool.{Bool, true, false, ◌||◌}
use mathlib.Core.List.{List, [], ◌∷◌, ◌++◌, append_assoc, append-nil}
use mathlib.Core.Path.{◌≡◌, refl, sym, ap, ◌∙◌}
use native.Mathlib.Omega.{arith}

-- A row before its first byte.
abbrev pub row_begun : ℕ → Walk
row_begun i = record { at = i; mode = Mode.Fresh; blanks = 0; gap = false }

module _ (b : List ℕ) (count : ℕ) where
  -- A walk over nothing.
  pub moves-none : (w : Walk) → Moves b count w w
  unfolding run blanks among
  moves-none w = record { read = []; here = refl; ahead = omega arith; mode = refl; blanks = omega arith; gap = sym (or-false w.gap); line = refl }

  -- A walk that goes on from where another came to.
  pub moves-then : {u v w : Walk} → Moves b count u v → Moves b count v w → Moves b count u w
  moves-then {u} {v} {w} f g =
      record {
        read = f.read ++ g.read;
        here = f.here ∙ ap (λ t. f.read ++ t) g.here ∙ sym (append_assoc f.read g.read (drop w.at b));
        ahead = omega (arith, f.ahead, g.ahead, length-append f.read g.read);
        mode = g.mode ∙ ap (λ m. run count m g.read) f.mode ∙ sym (run-append count u.mode f.read g.read);
        blanks = omega (arith, f.blanks, g.blanks, blanks-append f.read g.read);
        gap =
            g.gap ∙ ap (λ x. x || among 103 g.read) f.gap ∙ sym (or_assoc u.gap (among 103 f.read) (among 103 g.read))
            ∙ ap (λ x. u.gap || x) (sym (among-append 103 f.read g.read));
        line = among-append 10 f.read g.read ∙ or-both f.line g.line;
      }

  -- A walk over one byte, which is no LF.
  pub moves-byte : (w to : Walk) → w.at < length b → (get_or b w.at 0 ≡ 10 → ⊥) → to.at ≡ w.at + 1 → to.mode ≡ step count w.mode (get_or b w.at 0)
      → to.blanks ≡ pick (eqb (get_or b w.at 0) 32) (w.blanks + 1) w.blanks → to.gap ≡ w.gap || eqb (get_or b w.at 0) 103 → Moves b count w to
  unfolding run blanks among pick
  moves-byte w to inside other at mode counted gap =
      let x = get_or b w.at 0 in
      record {
        read = x ∷ [];
        here = drop-next b w.at inside ∙ ap (λ k. x ∷ drop k b) (sym at);
        ahead = at;
        mode = mode;
        blanks = by-test (eqb x 32) (λ t. counted ∙ rw t) (λ f. counted ∙ rw f (omega arith));
        gap = gap ∙ ap (λ t. w.gap || t) (eqb-sym x 103 ∙ sym (or-false (eqb 103 x)));
        line = or-both (ne_eqb 10 x (λ e. other (sym e))) refl;
      }

  -- A walk over a cell of one byte and a blank.
  pub moves-whole : (w : Walk) → w.at < length b → (get_or b w.at 0 ≡ 10 → ⊥) → w.mode ≡ Mode.Fresh → Whole b w.at count
      → Moves b count w (record { at = w.at + 2; mode = Mode.Fresh; blanks = w.blanks + 1; gap = w.gap || eqb (get_or b w.at 0) 103 })
  unfolding pick
  moves-whole w inside other fresh p =
      let blank = p.blank in
      moves-then (moves-byte w one inside other refl refl refl refl)
      (moves-byte one _ p.inside (λ e. omega arith) (omega arith) (rw (blank, fresh) (sym (step-blank count _ p.whole))) (rw (blank, cell-unblank count (get_or b w.at 0) p.whole)) (rw blank (sym (or-false _))))
    where
      one : Walk
      one = record { at = w.at + 1; mode = step count w.mode (get_or b w.at 0); blanks = pick (eqb (get_or b w.at 0) 32) (w.blanks + 1) w.blanks; gap = w.gap || eqb (get_or b w.at 0) 103 }

  -- A walk reads no more blanks than bytes.
  pub moves-few : (i : ℕ) (w : Walk) → Moves b count (row_begun i) w → w.blanks ≤ w.at
  moves-few i w m = omega (arith, m.ahead, m.blanks, blanks-few m.read)

-- Two lines without LF are equal if what they begin, with an LF behind them, is.
one_line : (p q r s : List ℕ) → among 10 p ≡ false → among 10 q ≡ false → p ++ (10 ∷ r) ≡ q ++ (10 ∷ s) → p ≡ q
unfolding among
one_line [] [] r s f g e = refl
one_line [] (y ∷ q) r s f g e = absurd (eqb-false 10 y (or_left (eqb 10 y) (among 10 q) g) (cc))
one_line (x ∷ p) [] r s f g e = absurd (eqb-false 10 x (or_left (eqb 10 x) (among 10 p) f) (cc))
one_line (x ∷ p) (y ∷ q) r s f g e =
    let rest : p ++ (10 ∷ r) ≡ q ++ (10 ∷ s) = cc in
    let same = one_line p q r s (or_right (eqb 10 x) (among 10 p) f) (or_right (eqb 10 y) (among 10 q) g) rest in
    cc

-- A text with an LF in it holds an LF.
line-ended : (p r : List ℕ) → among 10 (p ++ (10 ∷ r)) ≡ true
unfolding among
line-ended p r = among-append 10 p (10 ∷ r) ∙ or-second (among 10 p) (among 10 (10 ∷ r)) refl

-- An end that is told is the one that was met.
end-told : (t : Bool) (x : ℕ) (h : Bool) (j : ℕ) (g : Bool) → pick {X = Option (ℕ × Bool)} t (Some (x, h)) None ≡ Some (j, g) → (t ≡ true) × (x ≡ j) × (h ≡ g)
unfolding pick
end-told true x h j g e = let p = some_pair_parts _ _ _ _ e in (refl, p.0, p.1)
end-told false x h j g e = let z : ◌≡◌ {A = ℕ} 0 1 = cc in absurd (omega arith)

module _ (b : List ℕ) (i characters count : ℕ) (w : Walk) (m : Moves b count (row_begun i) w) where
  -- Where an LF stands, the row ends.
  module _ (lf : drop w.at b ≡ 10 ∷ drop (w.at + 1) b) where
    row-found : (j : ℕ) (g : Bool) → row_end (w.at + 1) w.mode w.blanks w.gap characters ≡ Some (j, g) → CellsStand b i characters count j g
    unfolding row_end
    row-found j g e =
        let t = end-told _ _ _ _ _ e in
        let good = and_left (ends w.mode) _ t.0 in
        let many = eqb-true (w.blanks + 1) characters (and_right (ends w.mode) _ t.0) in
        let row = row_read count m.read (sym (ap ends m.mode) ∙ good) in
        let cells = row.first ∷ row.more in
        record {
          cells = cells;
          sound = row.sound;
          count = omega (arith, many, m.blanks, ap blanks row.spelled, cells-blanks row.first row.more);
          here = m.here ∙ ap (λ x. m.read ++ x) lf ∙ ap (λ k. m.read ++ (10 ∷ drop k b)) t.1 ∙ ap (λ x. x ++ (10 ∷ drop j b)) (sym row.spelled);
          end = omega (arith, t.1, m.ahead, ap length row.spelled);
          gap = sym t.2 ∙ m.gap ∙ ap (among 103) (sym row.spelled) ∙ cells-gap cells;
        }

    row-all : (cells : List Cell) (rest : List ℕ) → sound_cells count cells ≡ true → length cells ≡ characters → 1 ≤ characters
        → drop i b ≡ spell_cells cells ++ (10 ∷ rest)
        → row_end (w.at + 1) w.mode w.blanks w.gap characters ≡ Some ((i + length (spell_cells cells) + 1), (gap_among cells))
    unfolding row_end
    row-all [] rest s n some e = absurd (omega arith)
    row-all (c ∷ r) rest s n some e =
        let same : m.read ≡ spell_cells (c ∷ r) = one_line m.read (spell_cells (c ∷ r)) (drop (w.at + 1) b) rest m.line (cells-clean (c ∷ r)) (ap (λ t. m.read ++ t) (sym lf) ∙ sym m.here ∙ e) in
        let ended : ends w.mode ≡ true = ap ends (m.mode ∙ ap (run count Mode.Fresh) same) ∙ cells-end count c r s in
        let many : w.blanks + 1 ≡ characters = omega (arith, m.blanks, ap blanks same, cells-blanks c r, n) in
        let place : w.at + 1 ≡ i + length (spell_cells (c ∷ r)) + 1 = omega (arith, m.ahead, ap length same) in
        let gaps : w.gap ≡ gap_among (c ∷ r) = m.gap ∙ ap (among 103) same ∙ cells-gap (c ∷ r) in
        pick_first _ _ _ (and_both ended (eq-eqb (w.blanks + 1) characters many)) ∙ ap (λ k. Some (k, w.gap)) place ∙ ap (λ g. Some ((i + length (spell_cells (c ∷ r)) + 1), g)) gaps

  pub judged-row : w.at < length b → get_or b w.at 0 ≡ 10 → (r : Option (ℕ × Bool)) → r ≡ row_end (w.at + 1) w.mode w.blanks w.gap characters → CellsJudged b i characters count r
  judged-row inside here r e =
      let lf : drop w.at b ≡ 10 ∷ drop (w.at + 1) b = drop-next b w.at inside ∙ ap (λ x. x ∷ drop (w.at + 1) b) here in
      record { found = λ j g f. row-found lf j g (sym e ∙ f); all = λ cells rest s n some f. e ∙ row-all lf cells rest s n some f }

  -- Without an LF there is no row.
  pub judged-none : length b ≤ w.at → CellsJudged b i characters count None
  judged-none past =
      record {
        found = λ j g e. let z : ◌≡◌ {A = ℕ} 0 1 = cc in absurd (omega arith);
        all = λ cells rest s n some e.
            let same : m.read ≡ spell_cells cells ++ (10 ∷ rest) = sym (append-nil m.read) ∙ ap (λ t. m.read ++ t) (sym (drop_of_length-le b past)) ∙ sym m.here ∙ e in
            not-both m.line (ap (among 10) same ∙ line-ended (spell_cells cells) rest);
      }
