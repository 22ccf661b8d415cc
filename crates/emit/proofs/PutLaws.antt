-- Pieces that are put into a buffer: none, one behind another, one byte; and what stands in the buffer once a piece was put from its front on.
-- Assumes nothing.
use Prim.Native.Nat.{ℕ, suc, ◌+◌, ◌-◌, ◌^◌, ◌≤◌, ◌<◌, min}
use Rattle.emit.specs.Puts.{Puts, last_place, puts}
use Rattle.lexer.proofs.Basics.{by-test}
use borrow.Author.Tests.{le-leb, leb-false, leb-true, lt-leb}
use lib.Dec.{leb}
use lib.ListN.{length, get_or, take, drop, set, length-append, length-set}
use lib.Seq.{append_snoc, set_comm, set_out, sets, sets-eq, take_all, take-suc}
use mathlib.Core.List.{List, [], ◌∷◌, ◌++◌}
use mathlib.Core.Path.{◌≡◌, refl, sym, ap, ◌∙◌}
use native.Mathlib.Nat.{add-zero, zero-add}
use native.Mathlib.Numerals.{add-one}
use native.Mathlib.Omega.{arith}

-- Nothing is put.
pub puts_none : {b : List ℕ} {n : ℕ} → Puts b n (λ behind. behind) b n
puts_none = record { written = λ behind. refl; reached = λ behind. refl; kept = refl }

-- One piece behind another.
pub puts_then : {a b c : List ℕ} {n m k : ℕ} {p q : List ℕ → List ℕ} → Puts a n p b m → Puts b m q c k → Puts a n (λ behind. p (q behind)) c k
puts_then {q = q} f g =
    record {
      written = λ behind. f.written (q behind) ∙ g.written behind;
      reached = λ behind. f.reached (q behind) ∙ g.reached behind;
      kept = g.kept ∙ f.kept;
    }

-- A piece by another name.
pub puts-as : {a b : List ℕ} {n m : ℕ} {p q : List ℕ → List ℕ} → Puts a n p b m → ((behind : List ℕ) → p behind ≡ q behind) → Puts a n q b m
puts-as {a} {n = n} f e =
    record {
      written = λ behind. ap (puts a n) (sym (e behind)) ∙ f.written behind;
      reached = λ behind. ap (λ l. min last_place (n + length l)) (sym (e behind)) ∙ f.reached behind;
      kept = f.kept;
    }

-- Behind its end nothing of a buffer changes.
pub puts-out : (buffer : List ℕ) (at : ℕ) (l : List ℕ) → length buffer ≤ at → puts buffer at l ≡ buffer
unfolding puts
puts-out buffer at [] h = refl
puts-out buffer at (b ∷ l) h = rw (set_out buffer at b h) (puts-out buffer (suc at) l (omega arith))

-- Bytes from behind the buffer's end on: nothing is written, and the place goes on by how many they are.
pub puts-past : (buffer : List ℕ) (n : ℕ) (l : List ℕ) (next : ℕ) → length buffer ≤ n → (next ≡ min last_place (n + length l)) × (n ≤ next)
    → Puts buffer n (λ behind. l ++ behind) buffer next
unfolding last_place
puts-past buffer n l next h e =
    record {
      written = λ behind. puts-out buffer n (l ++ behind) h ∙ sym (puts-out buffer next behind (omega arith));
      reached = λ behind. omega (arith, length-append l behind, e.0);
      kept = refl;
    }

-- A byte: where there is room for it, where there is none, and behind the last place.
module _ (buffer : List ℕ) (n b : ℕ) where
  pub byte-written : Puts buffer n (λ behind. b ∷ behind) (set buffer n b) (n + 1)
  unfolding puts
  byte-written =
      record {
        written = λ behind. rw (add-one n);
        reached = λ behind. ap (min last_place) (omega arith);
        kept = length-set buffer n b;
      }

  pub byte_past : length buffer ≤ n → n < 2 ^ 64 → Puts buffer n (λ behind. b ∷ behind) buffer (min (n + 1) (2 ^ 64 - 1))
  unfolding last_place
  byte_past h small =
      record {
        written = λ behind. puts-out buffer n (b ∷ behind) h ∙ sym (puts-out buffer (min (n + 1) (2 ^ 64 - 1)) behind (omega arith));
        reached = λ behind. omega arith;
        kept = refl;
      }

-- So many bytes of a list are put, then one more; and all.
module _ (l : List ℕ) (i : ℕ) {a b : List ℕ} {n m : ℕ} (f : Puts a n (λ behind. take i l ++ behind) b m) where
  pub puts-more : {c : List ℕ} {k : ℕ} → i < length l → Puts b m (λ behind. get_or l i 0 ∷ behind) c k → Puts a n (λ behind. take (i + 1) l ++ behind) c k
  puts-more h g = puts-as (puts_then f g) (λ behind. sym (rw (add-one i, take-suc l i 0 h) (append_snoc (take i l) (get_or l i 0) behind)))

  pub puts-all : length l ≤ i → Puts a n (λ behind. l ++ behind) b m
  puts-all h = rw (take_all i l h) at f

-- So many bytes of a list are stored from a place on, then one more.
pub puts-stored : (l : List ℕ) (i : ℕ) {a b : List ℕ} {n : ℕ} → Puts a n (λ behind. take i l ++ behind) b (n + i) → i < length l
    → Puts a n (λ behind. take (i + 1) l ++ behind) (set b (n + i) (get_or l i 0)) (n + (i + 1))
puts-stored l i {b = b} {n} f h =
    let next : n + i + 1 ≡ n + (i + 1) = omega arith in
    rw next at (puts-more l i f h (byte-written b (n + i) (get_or l i 0)))

-- A store in front of a run of stores may come before it.
pub set-sets : (l : List ℕ) (i j v : ℕ) (vs : List ℕ) → i < j → set (sets l j vs) i v ≡ sets (set l i v) j vs
set-sets l i j v [] h = refl
set-sets l i j v (w ∷ vs) h = set-sets (set l j w) i (suc j) v vs (omega arith) ∙ ap (λ m. sets m (suc j) vs) (set_comm l j i w v (λ e. omega arith))

-- A list of bytes is put by a run of stores.
pub puts-run : (buffer : List ℕ) (n : ℕ) (l : List ℕ) → Puts buffer n (λ behind. l ++ behind) (sets buffer n l) (n + length l)
puts-run buffer n [] = rw add-zero puts_none
puts-run buffer n (b ∷ l) =
    let next : n + 1 + length l ≡ n + suc (length l) = omega arith in
    rw (next, add-one n) at (puts_then (byte-written buffer n b) (puts-run (set buffer n b) (n + 1) l))

pub puts-sets : (buffer : List ℕ) (at : ℕ) (l : List ℕ) → puts buffer at l ≡ sets buffer at l
unfolding puts
puts-sets buffer at [] = refl
puts-sets buffer at (b ∷ l) = puts-sets (set buffer at b) (suc at) l

-- A piece that has room stands there whole.
pub puts_whole : (before after : List ℕ) (piece : List ℕ → List ℕ) (n : ℕ) → Puts before 0 piece after n → length (piece []) ≤ length before
    → length before < 2 ^ 63 → (after ≡ piece [] ++ drop (length (piece [])) before) × (n ≡ length (piece []))
unfolding puts last_place
puts_whole before after piece n p room small =
    let whole = rw (zero-add (length (piece []))) at (sets-eq (piece []) before 0 (omega arith)) in
    (sym (p.written []) ∙ puts-sets before 0 (piece []) ∙ whole, omega (arith, p.reached []))

-- The next place measures a piece: one that is counted no further is behind any length.
pub puts-measured : {before after : List ℕ} {piece : List ℕ → List ℕ} {n : ℕ} → Puts before 0 piece after n → (m : ℕ) → m < 2 ^ 63 → leb n m ≡ leb (length (piece [])) m
unfolding last_place
puts-measured {piece = piece} {n} p m small =
    let reached = p.reached [] in
    by-test (leb n m)
    (λ t. let h = leb-true n m t in t ∙ sym (le-leb (length (piece [])) m (omega arith)))
    (λ f. let h = leb-false n m f in f ∙ sym (lt-leb (length (piece [])) m (omega arith)))
