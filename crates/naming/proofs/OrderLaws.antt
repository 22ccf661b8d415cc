-- Lines in order, and one that is sought among them by halving. Assumes nothing.
use Prim.Native.Nat.{ℕ, ◌≤◌, ◌<◌}
use Rattle.block.specs.Names.{known}
use Rattle.lexer.proofs.Basics.{by-test, not-both, alike-sym}
use Rattle.lexer.specs.Base.{alike}
use Rattle.naming.proofs.BeforeLaws.{before_on, before-like, before-unlike}
use Rattle.naming.proofs.EntryLaws.{known-hit, known-miss}
use Rattle.naming.specs.Entries.{lines_at}
use Rattle.naming.specs.Lines.{line_at}
use Rattle.std.specs.List.Sorted.{IsPartitionedBy}
use Rattle.naming.specs.Order.{before, Rising, Parted}
use borrow.Author.Tests.{eqb-true, eqb-false, ltb-true, ltb-false}
use Rattle.std.proofs.lemmas.Grind.{get_or_default_zero}
use lib.Dec.{eqb, ltb}
use lib.ListN.{length, get_or, take}
use lib.Seq.{get_or-take, length-take-le}
use mathlib.Core.Bool.{Bool, true, false}
use mathlib.Core.List.{List}
use mathlib.Core.Path.{◌≡◌, sym, ◌∙◌}
use native.Mathlib.Omega.{arith}

-- A number is below another, or it is the other, or it is above it.
pub by_order : {X : Type 0} (k n : ℕ) → (k < n → X) → (k ≡ n → X) → (n < k → X) → X
by_order k n less same more =
    by-test (ltb k n)
    (λ t. less (ltb-true k n t))
    (λ f.
    by-test (eqb k n)
    (λ t. same (eqb-true k n t))
    (λ o. let other = eqb-false k n o in let least = ltb-false k n f in more (omega (arith, other))))

-- The lines at places in order, and one that is sought among them.
module _ (b : List ℕ) (at : ℕ) (ps : List ℕ) (rising : Rising b ps) where
  -- The lines before the one that is sought stand in front of all others.
  pub parted-by : IsPartitionedBy (λ p. before (line_at b p) (line_at b at)) ps
  parted-by i j d h l t =
      by-test (eqb i j)
      (λ e. rw (eqb-true i j e) t)
      (λ e.
      let other = eqb-false i j e in
      rw (get_or_default_zero ps i d (omega arith))
      (before_on (line_at b (get_or ps i 0)) (line_at b (get_or ps j 0)) (line_at b at)
      (rising.each i j (omega (arith, other)) l) (rw (get_or_default_zero ps j d l) at t)))

  -- So many are before the line, and only the next can be like it.
  module _ (n : ℕ) (parted : Parted b at ps n) where
    front-unlike : (k : ℕ) → k < n → alike (line_at b at) (line_at b (get_or ps k 0)) ≡ false
    front-unlike k h = alike-sym (line_at b at) (line_at b (get_or ps k 0)) ∙ before-unlike (line_at b (get_or ps k 0)) (line_at b at) (parted.front k h)

    parted-none : length ps ≤ n → false ≡ known (line_at b at) (lines_at b ps)
    parted-none h = sym (known-miss b (line_at b at) ps (λ k l. front-unlike k (omega arith)))

    module _ (some : n < length ps) where
      behind-unlike : (k : ℕ) → n < k → k < length ps → alike (line_at b at) (line_at b (get_or ps k 0)) ≡ false
      behind-unlike k h l =
          by-test (alike (line_at b at) (line_at b (get_or ps k 0)))
          (λ t.
          not-both (parted.behind n (omega arith) some)
          (before-like (line_at b (get_or ps n 0)) (line_at b (get_or ps k 0)) (line_at b at) (rising.each n k h l)
          (alike-sym (line_at b (get_or ps k 0)) (line_at b at) ∙ t)))
          (λ f. f)

      parted-told : (r : Bool) → r ≡ alike (line_at b at) (line_at b (get_or ps n 0)) → r ≡ known (line_at b at) (lines_at b ps)
      parted-told true e = sym (known-hit b (line_at b at) ps n some (sym e))
      parted-told false e =
          sym (known-miss b (line_at b at) ps
          (λ k l.
          by_order k n
          (λ h. front-unlike k h)
          (λ q. rw q (sym e))
          (λ h. behind-unlike k h l)))

-- The same of so many places.
module _ (b : List ℕ) (at : ℕ) (places : List ℕ) (count : ℕ) (room : count ≤ length places) (rising : Rising b (take count places)) where
  whole : length (take count places) ≡ count
  whole = length-take-le count places room

  module _ (n : ℕ) (parted : Parted b at (take count places) n) where
    pub parted-few : n ≤ count
    parted-few = omega (arith, parted.within, whole)

    pub found_none : count ≤ n → false ≡ known (line_at b at) (lines_at b (take count places))
    found_none h = parted-none b at (take count places) rising n parted (omega (arith, whole))

    pub found-told : n < count → (r : Bool) → r ≡ alike (line_at b at) (line_at b (get_or places n 0)) → r ≡ known (line_at b at) (lines_at b (take count places))
    found-told h r is =
        parted-told b at (take count places) rising n parted (omega (arith, whole)) r (rw (get_or-take count places n 0 h) is)
