-- A line that is inserted among those in order: what stands at each index then, and that they are in order again. Assumes nothing.
use Prim.Native.Nat.{ℕ, zero, suc, ◌+◌, ◌-◌, ◌≤◌, ◌<◌}
use Rattle.block.specs.Names.{known}
use Rattle.lexer.proofs.Basics.{by-test, not-both, alike-sym}
use Rattle.lexer.specs.Base.{alike}
use Rattle.naming.proofs.BeforeLaws.{else-before}
use Rattle.naming.proofs.EntryLaws.{known-hit}
use Rattle.naming.proofs.OrderLaws.{by_order}
use Rattle.naming.specs.Entries.{lines_at}
use Rattle.naming.specs.Lines.{line_at}
use Rattle.std.specs.List.{CopiedTo, SameBelow}
use Rattle.naming.specs.Order.{before, Rising, Parted, inserted, LineInserted}
use lib.ListN.{length, get_or, take, drop, set, length-set, length-append, length-drop, get_or-append}
use lib.Seq.{get_or-take, get_or-drop, get_or_at, get_or-append-add, get_or-set_same, get_or-set_other, length-take-le, ext_get_or}
use mathlib.Core.Bool.{Bool, true, false, ◌||◌, false≢true}
use mathlib.Core.List.{List, [], ◌∷◌, ◌++◌}
use mathlib.Core.Path.{◌≡◌, refl, sym, ap, ◌∙◌}
use native.Mathlib.Omega.{arith}

-- A place that is inserted behind so many: what stands at each index then.
module _ (at n : ℕ) (ps : List ℕ) (within : n ≤ length ps) where
  size : length (take n ps) ≡ n
  size = length-take-le n ps within

  inserted-length : length (inserted at n ps) ≡ length ps + 1
  unfolding inserted
  inserted-length = omega (arith, length-append (take n ps) (at ∷ drop n ps), size, length-drop n ps)

  inserted-front : (k : ℕ) → k < n → get_or (inserted at n ps) k 0 ≡ get_or ps k 0
  unfolding inserted
  inserted-front k h = get_or-append (take n ps) (at ∷ drop n ps) 0 k (omega (arith, size)) ∙ get_or-take n ps k 0 h

  inserted-here : get_or (inserted at n ps) n 0 ≡ at
  unfolding inserted
  inserted-here = get_or_at (take n ps) at (drop n ps) 0 n size

  inserted-behind : (k : ℕ) → n < k → get_or (inserted at n ps) k 0 ≡ get_or ps (k - 1) 0
  unfolding inserted
  inserted-behind k h =
      let index : length (take n ps) + suc (k - 1 - n) ≡ k = omega (arith, size) in
      let place : n + (k - 1 - n) ≡ k - 1 = omega arith in
      sym (ap (λ i. get_or (take n ps ++ (at ∷ drop n ps)) i 0) index)
      ∙ get_or-append-add (take n ps) (at ∷ drop n ps) (suc (k - 1 - n)) 0
      ∙ get_or-drop n ps (k - 1 - n) 0
      ∙ ap (λ i. get_or ps i 0) place

-- A name is known among lines with one more as with that one behind them.
or_swap : (x y z : Bool) → x || (y || z) ≡ y || (x || z)
or_swap true true z = refl
or_swap true false z = refl
or_swap false y z = refl

module _ (b : List ℕ) (at : ℕ) (m : List ℕ) where
  known-first : (ps : List ℕ) → alike m (line_at b at) || known m (lines_at b ps) ≡ known m (lines_at b ps ++ (line_at b at ∷ []))
  unfolding known lines_at
  known-first [] = refl
  known-first (p ∷ ps) = rw (← known-first ps) (or_swap (alike m (line_at b at)) (alike m (line_at b p)) (known m (lines_at b ps)))

  known-inserted : (n : ℕ) (ps : List ℕ) → known m (lines_at b (inserted at n ps)) ≡ known m (lines_at b ps ++ (line_at b at ∷ []))
  unfolding known lines_at inserted
  known-inserted zero ps = known-first ps
  known-inserted (suc n) [] = refl
  known-inserted (suc n) (p ∷ ps) = rw (known-inserted n ps)

-- The lines are in order with one more that is like none of them, behind those before it.
module _ (b : List ℕ) (at n : ℕ) (ps : List ℕ) (rising : Rising b ps) (parted : Parted b at ps n) (none : known (line_at b at) (lines_at b ps) ≡ false) where
  ahead : (k : ℕ) → n ≤ k → k < length ps → before (line_at b at) (line_at b (get_or ps k 0)) ≡ true
  ahead k h l =
      else-before (line_at b (get_or ps k 0)) (line_at b at) (parted.behind k h l)
      (alike-sym (line_at b (get_or ps k 0)) (line_at b at)
      ∙ by-test (alike (line_at b at) (line_at b (get_or ps k 0))) (λ t. not-both none (known-hit b (line_at b at) ps k l t)) (λ f. f))

  rising-inserted : Rising b (inserted at n ps)
  rising-inserted = record { each = λ i k h l. go i k h (omega (arith, inserted-length at n ps parted.within)) }
    where
      go : (i k : ℕ) → i < k → k < length ps + 1 → before (line_at b (get_or (inserted at n ps) i 0)) (line_at b (get_or (inserted at n ps) k 0)) ≡ true
      go i k h l =
          let within = parted.within in
          by_order k n
          (λ below. rw (inserted-front at n ps within i (omega arith), inserted-front at n ps within k below) (rising.each i k h (omega arith)))
          (λ here. rw (here, inserted-here at n ps within, inserted-front at n ps within i (omega arith)) (parted.front i (omega arith)))
          (λ above.
          rw (inserted-behind at n ps within k above)
          (by_order i n
          (λ below. rw (inserted-front at n ps within i below) (rising.each i (k - 1) (omega arith) (omega arith)))
          (λ here. rw (here, inserted-here at n ps within) (ahead (k - 1) (omega arith) (omega arith)))
          (λ more. rw (inserted-behind at n ps within i more) (rising.each (i - 1) (k - 1) (omega arith) (omega arith)))))

-- A line that was looked for among those at so many places, and inserted.
module _ (b : List ℕ) (at : ℕ) (places : List ℕ) (count n : ℕ) {r : Bool} (told : r ≡ known (line_at b at) (lines_at b (take count places))) where
  pub line-there : r ≡ true → LineInserted b at places places count true
  line-there y = record { told = sym y ∙ told; more = λ f. absurd (false≢true (sym f)); rising = λ f. absurd (false≢true (sym f)) }

  module _ (rising : Rising b (take count places)) (parted : Parted b at (take count places) n) (placed : List ℕ)
      (is : take (count + 1) placed ≡ inserted at n (take count places)) where
    pub line-inserted : r ≡ false → LineInserted b at places placed count false
    line-inserted f =
        record {
          told = sym f ∙ told;
          more = λ _ m. rw is (known-inserted b at m n (take count places));
          rising = λ _. rw is (rising-inserted b at n (take count places) rising parted (sym told ∙ f));
        }

-- So many places, those behind the first n moved on by one, with one place in the gap.
module _ (places : List ℕ) (count n : ℕ) (fits : count < length places) (few : n ≤ count) (moved : List ℕ) (room : length moved ≡ length places)
    (behind : CopiedTo places moved n (n + 1) (count - n)) (front : SameBelow places moved (n + 1)) where
  pub place_put : (at : ℕ) → take (count + 1) (set moved n at) ≡ inserted at n (take count places)
  place_put at = ext_get_or 0 (take (count + 1) (set moved n at)) (inserted at n (take count places)) (same_size ∙ sym more) (λ i h. go i (omega (arith, same_size)))
    where
      whole : length (take count places) ≡ count
      whole = length-take-le count places (omega arith)

      within : n ≤ length (take count places)
      within = omega (arith, whole)

      more : length (inserted at n (take count places)) ≡ count + 1
      more = omega (arith, inserted-length at n (take count places) within, whole)

      same_size : length (take (count + 1) (set moved n at)) ≡ count + 1
      same_size = length-take-le (count + 1) (set moved n at) (omega (arith, length-set moved n at))

      go : (i : ℕ) → i < count + 1 → get_or (take (count + 1) (set moved n at)) i 0 ≡ get_or (inserted at n (take count places)) i 0
      go i h =
          get_or-take (count + 1) (set moved n at) i 0 h
          ∙ by_order i n
          (λ below.
          get_or-set_other moved n i at 0 (λ e. omega arith)
          ∙ front i 0 (omega arith)
          ∙ sym (get_or-take count places i 0 (omega arith))
          ∙ sym (inserted-front at n (take count places) within i below))
          (λ here. rw here (get_or-set_same moved n at 0 (omega arith) ∙ sym (inserted-here at n (take count places) within)))
          (λ above.
          let from : n + (i - (n + 1)) ≡ i - 1 = omega arith in
          get_or-set_other moved n i at 0 (λ e. omega arith)
          ∙ behind i 0 (omega arith) (omega arith)
          ∙ ap (λ k. get_or places k 0) from
          ∙ sym (get_or-take count places (i - 1) 0 (omega arith))
          ∙ sym (inserted-behind at n (take count places) within i above))
