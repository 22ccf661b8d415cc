-- The turns of a row: one word, or the three of a whole set. Assumes nothing.
use Rattle.std.specs.Prelude.{Some, Option}
use Prim.Native.Nat.{ℕ, ◌+◌, ◌-◌, ◌≤◌, ◌<◌}
use Rattle.block.specs.Commands.{newline}
use Rattle.block.specs.Outcome.{Outcome, done, refused}
use Rattle.block.specs.declared.kinds.Bracket.{Bracket}
use Rattle.lexer.proofs.Basics.{or_left, or_right}
use Rattle.lexer.specs.Base.{pick}
use Rattle.lexer.specs.PlainWords.{PlainWord, part}
use Rattle.lexer.specs.Stored.{word_of}
use Rattle.lexer.specs.Words.{Numbered, is_mark, punct}
use Rattle.lexer.specs.declared.Kind.{Kind}
use Rattle.lexer.specs.declared.refusal.Refusal.{Refusal}
use Rattle.matrix.proofs.CellWalk.{all-coded, wrong-coded, symbols-told}
use Rattle.matrix.proofs.SetLaws.{states-line, close-line, open-shape, states-shape, close-shape}
use Rattle.matrix.specs.RowShape.{all_coded, chunk_shape, coded, plain_with, symbols_coded}
use Rattle.matrix.specs.SequentialShape.{CellsPassed, ToldCells, Turns, grown_shape, last, on, set_told, turn_shape, word_told}
use Rattle.matrix.specs.WholeSets.{WholeSet}
use Rattle.matrix.specs.declared.matrix.Chunk.{Chunk}
use Rattle.matrix.specs.declared.matrix.Turned.{Turned}
use borrow.Author.Tests.{le-ltb, leb-false, ltb-false, ne_eqb}
use lib.Dec.{leb, ltb}
use lib.ListN.{length, get_or, drop, length-drop}
use lib.Seq.{length-take-le}
use mathlib.Core.Bool.{true, false, ◌||◌}
use mathlib.Core.List.{List}
use mathlib.Core.Path.{◌≡◌, refl, sym, ap, ◌∙◌}
use native.Mathlib.Omega.{arith}

module _ (text work codes : List ℕ) (to taxa characters : ℕ) (names : List (List ℕ)) where
  -- One word more of a row.
  pub row-turns : (name : ℕ) (row : Chunk) (i : ℕ) {o : Outcome Chunk} {r : Outcome Turned} → o ≡ chunk_shape codes row (word_of text work i) → r ≡ grown_shape characters name i o
      → Turns text work codes to taxa characters names (Some (name, row)) i r (i + 1)
  unfolding turn_shape word_of
  row-turns name row i d e = last refl (e ∙ ap (grown_shape characters name i) d)

  -- A whole set.
  pub set-turns : (name n i : ℕ) {k : Bracket} {states : List ℕ} {r : Outcome Turned} → WholeSet codes text work i to k states → r ≡ grown_shape characters name (i + 2) (done (Chunk.Plain (n + 1)))
      → Turns text work codes to taxa characters names (Some (name, (Chunk.Plain n))) i r (i + 3)
  unfolding turn_shape grown_shape word_of
  set-turns name n i {k} s e =
      let room = s.room in
      on (Some (name, (Chunk.Within n k i true))) (i + 1) refl (ap (grown_shape characters name i) (open-shape s n)) (omega arith) (states-line s)
      (on {i = i + 1} (Some (name, (Chunk.Within n k i false))) (i + 2) (omega arith) (ap (grown_shape characters name (i + 1)) (states-shape s n i)) room (close-line s)
      (last {i = i + 2} {j = i + 3} (omega arith) (e ∙ ap (grown_shape characters name (i + 2)) (sym (close-shape s n i)))))

  -- They go on.
  pub turns-ahead : {line : Option (ℕ × Chunk)} {i : ℕ} {r : Outcome Turned} {j : ℕ} → Turns text work codes to taxa characters names line i r j → i < j
  turns-ahead (last e d) = omega arith
  turns-ahead (on next k e d h w more) = let m = turns-ahead more in omega arith

  -- A row that stays short of so many cells goes on.
  grown-on : (name i cells : ℕ) → cells < characters → grown_shape characters name i (done (Chunk.Plain cells)) ≡ done (Turned.On (Some (name, (Chunk.Plain cells))))
  unfolding grown_shape pick
  grown-on name i cells h = rw (le-ltb characters cells (omega arith), ne_eqb cells characters (λ e. omega arith)) refl

  -- What is told at once goes on to the words behind it.
  told-turns : (name n i cells next : ℕ) {r : Outcome Turned} {j : ℕ} → ToldCells text work codes to n i cells next → cells < characters → next < to
      → newline (word_of text work next) ≡ false → Turns text work codes to taxa characters names (Some (name, (Chunk.Plain cells))) next r j
      → Turns text work codes to taxa characters names (Some (name, (Chunk.Plain n))) i r j
  unfolding turn_shape grown_shape word_of
  told-turns name n i cells next (word_told d) h below w more =
      on (Some (name, (Chunk.Plain cells))) (i + 1) refl (ap (grown_shape characters name i) d ∙ grown-on name i cells h) below w more
  told-turns name n i cells next (set_told {k} s) h below w more =
      let room = s.room in
      on (Some (name, (Chunk.Within n k i true))) (i + 1) refl (ap (grown_shape characters name i) (open-shape s n)) (omega arith) (states-line s)
      (on {i = i + 1} (Some (name, (Chunk.Within n k i false))) (i + 2) (omega arith) (ap (grown_shape characters name (i + 1)) (states-shape s n i)) room (close-line s)
      (on {i = i + 2} (Some (name, (Chunk.Plain (n + 1)))) (i + 3) (omega arith) (ap (grown_shape characters name (i + 2)) (close-shape s n i) ∙ grown-on name (i + 2) (n + 1) h) below w more))

module _ {text work codes : List ℕ} {to characters n i : ℕ} where
  pub passed-more : {cells next more behind : ℕ} → CellsPassed text work codes to characters n i cells next → ToldCells text work codes to cells next more behind
      → leb characters more || leb to behind || ltb 2199023255552 more ≡ false → newline (word_of text work behind) ≡ false
      → CellsPassed text work codes to characters n i more behind
  passed-more {cells} {next} {more} {behind} k t e w =
      let a = or_left (leb characters more || leb to behind) (ltb 2199023255552 more) e in
      let short = leb-false characters more (or_left (leb characters more) (leb to behind) a) in
      let below = leb-false to behind (or_right (leb characters more) (leb to behind) a) in
      let few = ltb-false 2199023255552 more (or_right (leb characters more || leb to behind) (ltb 2199023255552 more) e) in
      record {
        below = below;
        few = few;
        goes = λ s taxa names r j m.
            k.goes s taxa names r j (told-turns text work codes to taxa characters names s cells next more behind t short below w m);
      }

-- A word that is told by its bytes.
plain-shaped : (codes : List ℕ) (n : ℕ) (w : Numbered) → w.token.kind ≡ Kind.Word → chunk_shape codes (Chunk.Plain n) w ≡ plain_with n w.index (symbols_coded codes w)
unfolding chunk_shape punct is_mark pick
plain-shaped codes n w e = rw e refl

-- The bytes from a place up to an end, and a row behind them.
pub part-size : (text : List ℕ) (start end : ℕ) → end ≤ length text → length (part text start end) ≡ end - start
part-size text start end h = length-take-le (end - start) (drop start text) (rw (length-drop start text) (omega arith))

pub all-shape : (codes : List ℕ) (n i : ℕ) (l : List ℕ) (k : ℕ) → length l ≡ k → all_coded codes l ≡ true → plain_with n i (coded codes 0 true l) ≡ done (Chunk.Plain (n + k))
unfolding plain_with
all-shape codes n i l k e all = let none : 0 + k ≡ k = omega arith in rw ((all-coded codes l 0 true all).1, e, none) refl

pub wrong-shape : (codes : List ℕ) (n i : ℕ) (l : List ℕ) → all_coded codes l ≡ false → plain_with n i (coded codes 0 true l) ≡ refused Refusal.CellSymbol i
unfolding plain_with
wrong-shape codes n i l all = rw (wrong-coded codes l 0 true all) refl

module _ (text work codes : List ℕ) (i start end : ℕ) (at : start ≡ get_or work i 0) (w : PlainWord text start end) where
  pub word-shape : (n : ℕ) → plain_with n i (coded codes 0 true (part text start end)) ≡ chunk_shape codes (Chunk.Plain n) (word_of text work i)
  unfolding word_of
  word-shape n =
      let kind : (word_of text work i).token.kind ≡ Kind.Word = rw (← at) (ap (λ t. t.kind) w.told) in
      ap (plain_with n i) (symbols-told text work codes i start at end w) ∙ sym (plain-shaped codes n (word_of text work i) kind)

  pub word-cells-told : (to n : ℕ) → all_coded codes (part text start end) ≡ true → ToldCells text work codes to n i (n + (end - start)) (i + 1)
  word-cells-told to n all = word_told (sym (word-shape n) ∙ all-shape codes n i (part text start end) (end - start) (part-size text start end w.within) all)
