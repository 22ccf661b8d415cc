-- States that are put into a set by their marks. Assumes nothing.
use Prim.Native.Nat.{ℕ, ◌+◌, ◌-◌, ◌≤◌, ◌<◌}
use Rattle.block.specs.Cell.{Cell, state, uncertain, polymorphic, missing, gap}
use Rattle.lexer.proofs.Basics.{by-test}
use Rattle.lexer.proofs.NextBytes.{front-left}
use Rattle.lexer.proofs.Yielded.{YieldsByte}
use Rattle.lexer.specs.Base.{pick}
use Rattle.lexer.specs.Bytes.{front_at, left}
use Rattle.lexer.specs.Lexing.{token_at}
use Rattle.lexer.specs.declared.Cursor.{Cursor}
use Rattle.matrix.specs.Taken.{also, states_taken}
use Rattle.reading.proofs.DecodedLaws.{decoded-other, decoded-state}
use Rattle.reading.specs.CodedCells.{Cleared, cells_coded, decoded, marked, topped}
use borrow.Author.Tests.{ltb-false, ltb-true}
use lib.Dec.{ltb}
use lib.ListN.{length, get_or, set, drop, replicate, get_or-append}
use lib.Seq.{get_or-append_right}
use Rattle.std.proofs.lemmas.List.{get_or-drop, get_or-replicate, length-append, length-drop, length-replicate}
use mathlib.Core.List.{List, [], ◌∷◌, ◌++◌}
use mathlib.Core.Option.{Option, none, some}
use mathlib.Core.Path.{◌≡◌, refl, ap, ◌∙◌}
use native.Mathlib.Omega.{arith}

-- The states among a cell and others.
pub states-append : (o : Option Cell) (cs : List Cell) → states_taken (also o cs) ≡ states_taken (also o []) ++ states_taken cs
unfolding also states_taken
states-append none cs = refl
states-append (some (state i)) cs = refl
states-append (some (uncertain s)) cs = refl
states-append (some (polymorphic s)) cs = refl
states-append (some missing) cs = refl
states-append (some gap) cs = refl

marked_append : (xs ys set : List ℕ) → marked (xs ++ ys) set ≡ marked ys (marked xs set)
unfolding marked
marked_append [] ys s = refl
marked_append (i ∷ xs) ys s = marked_append xs ys (set s i 1)

topped-append : (xs ys : List ℕ) (top : ℕ) → topped (xs ++ ys) top ≡ topped ys (topped xs top)
unfolding topped
topped-append [] ys top = refl
topped-append (i ∷ xs) ys top = topped-append xs ys _

-- The states of what is left of a token's text, put into a set so far, make what all make of it.
pub record Marking (text codes : List ℕ) (start : ℕ) (before : List ℕ) (from : ℕ) (set : List ℕ) (top : ℕ) (c : Cursor) : Type 0 where
  pub grown : marked (states_taken (cells_coded codes (left text c))) set ≡ marked (states_taken (cells_coded codes (token_at text start).text)) before
  pub within : topped (states_taken (cells_coded codes (left text c))) top ≡ topped (states_taken (cells_coded codes (token_at text start).text)) from

module _ (text codes : List ℕ) (start : ℕ) {before : List ℕ} {from : ℕ} where
  pub marking-start : (c : Cursor) → c ≡ front_at text start → Marking text codes start before from before from c
  marking-start c e = record { grown = rw (front-left text start c e); within = rw (front-left text start c e) }

  module _ {set : List ℕ} {top : ℕ} (c : Cursor) (k : Marking text codes start before from set top c) where
    pub marking-turn : {s : List ℕ} {t : ℕ} (x code : ℕ) (d : Cursor) → YieldsByte text c.at (left text c) x d → code ≡ get_or codes x 0
        → s ≡ marked (states_taken (also (decoded code) [])) set → t ≡ topped (states_taken (also (decoded code) [])) top → Marking text codes start before from s t d
    unfolding cells_coded
    marking-turn x code d y e p q =
        let o = decoded (get_or codes x 0) in
        let rest = cells_coded codes (left text d) in
        let all : states_taken (cells_coded codes (left text c)) ≡ states_taken (also o []) ++ states_taken rest = rw y.here (states-append o rest) in
        record {
          grown = rw (p, e, ← marked_append (states_taken (also o [])) (states_taken rest) set, ← all) k.grown;
          within = rw (q, e, ← topped-append (states_taken (also o [])) (states_taken rest) top, ← all) k.within;
        }

    pub marking-end : left text c ≡ []
        → record {
          grown : set ≡ marked (states_taken (cells_coded codes (token_at text start).text)) before;
          within : top ≡ topped (states_taken (cells_coded codes (token_at text start).text)) from;
        }
    unfolding cells_coded states_taken marked topped
    marking-end e = record { grown = rw e at k.grown; within = rw e at k.within }

-- The states of a code: itself, below 96, and else none.
pub states-low : (code : ℕ) → code < 96 → states_taken (also (decoded code) []) ≡ code ∷ []
unfolding also states_taken
states-low code h = rw (decoded-state code h)

pub states-high : (code : ℕ) → 96 ≤ code → states_taken (also (decoded code) []) ≡ []
unfolding also states_taken
states-high code h = decoded-other code (λ o. states_taken (also o []) ≡ []) h (λ s. refl) refl refl refl

-- Marks that were filled with 0 up to an end.
pub cleared-filled : (before zeros : List ℕ) (top : ℕ) → top ≤ length before → zeros ≡ replicate top 0 → Cleared before top (zeros ++ drop top before)
unfolding pick
cleared-filled before zeros top fits filled =
    let size : length zeros ≡ top = rw filled (length-replicate top 0) in
    record {
      kept = omega (arith, length-append zeros (drop top before), length-drop top before, size);
      marks = λ k.
          by-test (ltb k top)
          (λ t. let h = ltb-true k top t in rw t (get_or-append zeros (drop top before) 0 k (omega arith) ∙ rw filled (get_or-replicate top k 0 0 h)))
          (λ f. let h = ltb-false k top f in
          let there : top + (k - length zeros) ≡ k = omega arith in
          rw f (get_or-append_right zeros (drop top before) k 0 (omega arith) ∙ get_or-drop top before (k - length zeros) 0 ∙ ap (λ n. get_or before n 0) there));
    }
