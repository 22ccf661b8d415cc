-- The states of a set by its marks: with one more, with several more, up to an end behind which all are 0, and after all are made 0. Assumes nothing.
use Prim.Native.Nat.{ℕ, zero, suc, ◌+◌, ◌≤◌, ◌<◌}
use Rattle.block.proofs.OutcomeLaws.{All, all_append}
use Rattle.block.specs.Cell.{insert, insert_all}
use Rattle.lexer.proofs.Basics.{by-test, chosen, eqb_same}
use Rattle.lexer.specs.Base.{pick}
use Rattle.lexer.specs.Words.{Numbered}
use Rattle.matrix.specs.Taken.{also, states_taken}
use Rattle.reading.proofs.MarkLaws.{states-append, states-high, states-low}
use Rattle.reading.specs.CodedCells.{Cleared, cells_coded, decoded, has_cells, marked, members, topped, word_coded}
use Rattle.reading.specs.RowWalk.{Clean}
use borrow.Author.Tests.{eq-eqb, eqb-false, eqb-true, le-ltb, lt-ltb, ltb-false, ltb-true, ne_eqb}
use lib.Dec.{eqb, ltb}
use lib.ListN.{length, get_or, set, take, length-set}
use lib.Seq.{get_or-set_other, set_comm}
use mathlib.Core.List.{List, [], ◌∷◌}
use mathlib.Core.Path.{◌≡◌, refl, sym, ap, ◌∙◌}
use native.Mathlib.Nat.{zero-add}
use native.Mathlib.Omega.{arith}

-- A state below all of a set stands before them.
insert-first : (i k : ℕ) (l : List ℕ) → i < k → insert i (members k l) ≡ i ∷ members k l
unfolding insert members pick
insert-first i k [] h = refl
insert-first i k (b ∷ r) h = by-test (eqb b 0) (λ t. rw t (insert-first i (suc k) r (omega arith))) (λ f. rw (f, lt-ltb i k h))

-- A set with one mark more has its state more.
members-set : (k : ℕ) (l : List ℕ) (i : ℕ) → i < length l → members k (set l i 1) ≡ insert (k + i) (members k l)
unfolding insert members pick
members-set k [] i h = absurd (omega arith)
members-set k (b ∷ r) zero h =
    let at : k + 0 ≡ k = omega arith in
    rw at (by-test (eqb b 0) (λ t. rw t (sym (insert-first k (suc k) r (omega arith)))) (λ f. rw (f, le-ltb k k (omega arith), eqb_same k)))
members-set k (b ∷ r) (suc i) h =
    let at : k + suc i ≡ suc k + i = omega arith in
    let more = members-set (suc k) r i (omega arith) in
    rw at
    (by-test (eqb b 0) (λ t. rw (t, more))
    (λ f. rw (f, more, le-ltb (suc k + i) k (omega arith), ne_eqb (suc k + i) k (λ e. omega arith))))

-- Marks that are made in either order.
set_both : (l : List ℕ) (i j : ℕ) → set (set l i 1) j 1 ≡ set (set l j 1) i 1
set_both l i j = by-test (eqb i j) (λ t. rw (eqb-true i j t)) (λ f. set_comm l i j 1 1 (eqb-false i j f))

marked-set : (xs l : List ℕ) (i : ℕ) → marked xs (set l i 1) ≡ set (marked xs l) i 1
unfolding marked
marked-set [] l i = refl
marked-set (j ∷ xs) l i = rw (set_both l i j) (marked-set xs (set l j 1) i)

pub marked-length : (xs l : List ℕ) → length (marked xs l) ≡ length l
unfolding marked
marked-length [] l = refl
marked-length (i ∷ xs) l = marked-length xs (set l i 1) ∙ length-set l i 1

-- A set with several states more.
pub marked-members : (xs l : List ℕ) → All (λ i. i < length l) xs → members 0 (marked xs l) ≡ insert_all xs (members 0 l)
unfolding marked insert_all
marked-members [] l h = refl
marked-members (i ∷ xs) l h =
    let below : i < length (marked xs l) = rw (marked-length xs l) h.0 in
    ap (members 0) (marked-set xs l i) ∙ members-set 0 (marked xs l) i below ∙ rw (zero-add i, marked-members xs l h.1)

-- Each of them is below the end of the marks that they make; behind it all stay 0.
pub marked-clean : (xs l : List ℕ) (top : ℕ) → Clean l top → Clean (marked xs l) (topped xs top)
unfolding marked topped
marked-clean [] l top h = h
marked-clean (i ∷ xs) l top h =
    let end = pick (ltb i top) top (i + 1) in
    let old : top ≤ end = chosen (λ n. top ≤ n) (ltb i top) (λ _. omega arith) (λ f. let m = ltb-false i top f in omega arith) in
    let new : i < end = chosen (λ n. i < n) (ltb i top) (λ t. ltb-true i top t) (λ _. omega arith) in
    marked-clean xs (set l i 1) end (λ k le. get_or-set_other l i k 1 0 (λ e. omega arith) ∙ h k (omega arith))

pub topped-low : (xs : List ℕ) (top most : ℕ) → All (λ i. i < most) xs → top ≤ most → topped xs top ≤ most
unfolding topped
topped-low [] top most h le = le
topped-low (i ∷ xs) top most h le = topped-low xs _ most h.1 (chosen (λ n. n ≤ most) (ltb i top) (λ _. le) (λ _. omega (arith, h.0)))

-- The states of a word by codes are below 96.
low-states : (code : ℕ) → All (λ i. i < 96) (states_taken (also (decoded code) []))
low-states code =
    by-test (ltb code 96) (λ t. let h = ltb-true code 96 t in rw (states-low code h) (h, tt)) (λ f. rw (states-high code (ltb-false code 96 f)) tt)

coded-states : (codes bytes : List ℕ) → All (λ i. i < 96) (states_taken (cells_coded codes bytes))
unfolding cells_coded states_taken
coded-states codes [] = tt
coded-states codes (b ∷ r) =
    let o = decoded (get_or codes b 0) in
    rw (states-append o (cells_coded codes r)) (all_append (λ i. i < 96) (states_taken (also o [])) (states_taken (cells_coded codes r)) (low-states (get_or codes b 0)) (coded-states codes r))

pub word-states : (codes : List ℕ) (w : Numbered) → All (λ i. i < 96) (states_taken (word_coded codes w))
unfolding word_coded states_taken
word-states codes w = chosen (λ cells. All (λ i. i < 96) (states_taken cells)) (has_cells w) (λ _. coded-states codes w.token.text) (λ _. tt)

-- A set without marks has no states; and marks that are 0 are none of its states.
pub members-none : (k : ℕ) (l : List ℕ) → ((j : ℕ) → get_or l j 0 ≡ 0) → members k l ≡ []
unfolding members pick
members-none k [] h = refl
members-none k (b ∷ r) h = rw (eq-eqb b 0 (h zero)) (members-none (suc k) r (λ j. h (suc j)))

pub members-take : (k top : ℕ) (l : List ℕ) → Clean l top → members k (take top l) ≡ members k l
unfolding members pick
members-take k zero l h = sym (members-none k l (λ j. h j (omega arith)))
members-take k (suc top) [] h = refl
members-take k (suc top) (b ∷ r) h = rw (members-take (suc k) top r (λ j le. h (suc j) (omega arith)))

pub cleared-zero : (before after : List ℕ) (top : ℕ) → Clean before top → Cleared before top after → (k : ℕ) → get_or after k 0 ≡ 0
cleared-zero before after top h c k = c.marks k ∙ chosen (λ n. n ≡ 0) (ltb k top) (λ _. refl) (λ f. h k (ltb-false k top f))
