-- Numbers that are all below a bound: below a greater one too, one by one, those in front, and those that are stored. Assumes nothing.
use Prim.Native.Nat.{ℕ, zero, suc, ◌+◌, ◌≤◌, ◌<◌}
use Rattle.block.proofs.OutcomeLaws.{All}
use Rattle.matrix.proofs.RowNames.{stored-count}
use Rattle.matrix.specs.Lines.{stored}
use Rattle.matrix.specs.OrderHeld.{all_below}
use lib.ListN.{length, get_or, take, drop}
use lib.Seq.{get_or-take, get_or-drop}
use mathlib.Core.List.{List, [], ◌∷◌}
use mathlib.Core.Path.{◌≡◌, ◌∙◌}
use native.Mathlib.Omega.{arith}

pub below-further : (m n : ℕ) → m ≤ n → (l : List ℕ) → all_below m l → all_below n l
unfolding all_below
below-further m n h [] b = tt
below-further m n h (s ∷ r) b = (omega (arith, b.0), below-further m n h r b.1)

module _ (bound : ℕ) where
  pub below_each : (l : List ℕ) → all_below bound l → All (λ s. s < bound) l
  unfolding all_below
  below_each [] h = tt
  below_each (s ∷ r) h = (h.0, below_each r h.1)

  pub each_below : (l : List ℕ) → All (λ s. s < bound) l → all_below bound l
  unfolding all_below
  each_below [] h = tt
  each_below (s ∷ r) h = (h.0, each_below r h.1)

  pub below-front : (n : ℕ) (l : List ℕ) → all_below bound l → all_below bound (take n l)
  unfolding all_below
  below-front zero l h = tt
  below-front (suc n) [] h = tt
  below-front (suc n) (s ∷ r) h = (h.0, below-front n r h.1)

  below_at : (l : List ℕ) → all_below bound l → (k : ℕ) → k < length l → get_or l k 0 < bound
  unfolding all_below
  below_at [] h k m = absurd (omega arith)
  below_at (s ∷ r) h zero m = h.0
  below_at (s ∷ r) h (suc k) m = below_at r h.1 k (omega arith)

  pub stored-below : (work : List ℕ) (at n : ℕ) → all_below bound (stored work at n) → (k : ℕ) → k < n → at + n ≤ length work → get_or work (at + k) 0 < bound
  unfolding stored
  stored-below work at n h k m room =
      let here : get_or (stored work at n) k 0 ≡ get_or work (at + k) 0 = get_or-take n (drop at work) k 0 m ∙ get_or-drop at work k 0 in
      rw here at (below_at (stored work at n) h k (omega (arith, stored-count work at n room)))
