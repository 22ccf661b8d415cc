-- The walk over the lines of an interleaved row, one a page. Assumes nothing.
use Prim.Native.Nat.{ℕ, suc, ◌+◌, ◌*◌, ◌≤◌, ◌<◌}
use Rattle.block.specs.Cell.{Cell}
use Rattle.block.specs.Chunk.{plain}
use Rattle.block.specs.Codes.{Coded}
use Rattle.block.specs.Format.{Format}
use Rattle.block.specs.Interleaved.{to_newline}
use Rattle.emit.proofs.PutLaws.{puts_none}
use Rattle.emit.specs.Puts.{Puts, last_place}
use Rattle.lexer.proofs.Basics.{by-test}
use Rattle.lexer.specs.Stored.{range}
use Rattle.matrix.specs.Lines.{stored}
use Rattle.matrix.specs.PagesHeld.{line_at}
use Rattle.matrix.specs.Taken.{line_taken}
use Rattle.reading.proofs.TaxonPieces.{puts-behind}
use Rattle.reading.specs.Pieces.{spell_on}
use Rattle.reading.specs.RowLines.{cells_on, column}
use borrow.Author.Tests.{leb-false, leb-true}
use lib.Dec.{eqb, leb}
use lib.ListN.{length, get_or, take, drop}
use lib.Seq.{get_or-drop, get_or-take}
use mathlib.Core.Bool.{false, not}
use mathlib.Core.List.{List, []}
use mathlib.Core.Path.{◌≡◌, sym, subst, ◌∙◌}
use native.Mathlib.Nat.{mul-le-mul_right, suc-mul, zero-add, zero-mul}
use native.Mathlib.Omega.{arith}

-- A number that is stored, by its place in work memory.
pub stored_at : (work : List ℕ) (count lines at : ℕ) → at < lines → get_or (stored work count lines) at 0 ≡ get_or work (count + at) 0
unfolding stored
stored_at work count lines at h = get_or-take lines (drop count work) at 0 h ∙ get_or-drop count work at 0

module _ (text work codes : List ℕ) (count lines taxa to first : ℕ) (before : List ℕ) (n : ℕ) where
  abbrev row : Format → ℕ → List Cell
  row f pages = column (cells_on text (take count work) f to (stored work count lines)) taxa first pages

  -- The lines of so many pages are put, and the next one is that of the page behind them.
  pub record Lining (buffer : List ℕ) (next at : ℕ) : Type 0 where
    pub passed : ℕ
    pub reached : at ≡ passed * taxa + first
    pub few : (pages left : ℕ) → lines ≡ pages * taxa + left → left ≤ first → first < taxa → passed ≤ pages
    pub written : (f : Format) → Coded f codes → length f.symbols ≤ 74 → Puts before n (spell_on false (row f passed)) buffer next

  pub lining-start : Lining before n first
  unfolding column spell_on
  lining-start =
      record {
        passed = 0;
        reached = sym (rw (zero-mul taxa) (zero-add first));
        few = λ pages left e l h. omega arith;
        written = λ f c s. puts_none;
      }

  module _ (buffer : List ℕ) (next at : ℕ) (k : Lining buffer next at) where
    one_more : at < lines → (pages left : ℕ) → lines ≡ pages * taxa + left → left ≤ first → first < taxa → suc k.passed ≤ pages
    one_more t pages left e l h =
        by-test (leb pages k.passed)
        (λ d. let m = mul-le-mul_right taxa (leb-true pages k.passed d) in absurd (omega (arith, k.reached)))
        (λ d. leb-false pages k.passed d)

    line-cells : (f : Format) (from : ℕ) → at < lines → from ≡ get_or work (count + at) 0 + 1
        → cells_on text (take count work) f to (stored work count lines) (k.passed * taxa + first) ≡ line_taken f (plain []) (to_newline (range text (take count work) from to))
    unfolding cells_on line_at
    line-cells f from t e = rw (← k.reached, stored_at work count lines at t, e)

    pub lining-turn : {after : List ℕ} {r : ℕ} (from : ℕ) → at < lines → from ≡ get_or work (count + at) 0 + 1 → length before ≤ last_place → n ≤ last_place → next ≤ last_place
        → ((f : Format) → Coded f codes → length f.symbols ≤ 74 → Puts buffer next (spell_on (not (eqb next n)) (line_taken f (plain []) (to_newline (range text (take count work) from to)))) after r)
        → Lining after r (at + taxa)
    unfolding column
    lining-turn {after} {r} from t e small a b line =
        record {
          passed = suc k.passed;
          reached = rw (suc-mul k.passed taxa) (omega (arith, k.reached));
          few = one_more t;
          written = λ f c s.
              puts-behind (row f k.passed) small a b _ (k.written f c s) (subst (λ cells. Puts buffer next (spell_on (not (eqb next n)) cells) after r) (sym (line-cells f from t e)) (line f c s));
        }

    pub lining-end : lines ≤ at → (f : Format) → Coded f codes → length f.symbols ≤ 74 → (pages left : ℕ) → lines ≡ pages * taxa + left → left ≤ first → first < taxa
        → Puts before n (spell_on false (row f pages)) buffer next
    lining-end t f c s pages left e l h =
        by-test (leb pages k.passed)
        (λ d. let m = leb-true pages k.passed d in let o = k.few pages left e l h in let same : k.passed ≡ pages = omega arith in subst (λ q. Puts before n (spell_on false (row f q)) buffer next) same (k.written f c s))
        (λ d. let m = mul-le-mul_right taxa (leb-false pages k.passed d) in absurd (omega (arith, k.reached, suc-mul k.passed taxa)))
