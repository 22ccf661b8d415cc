-- Blocks of bytes of a kind: what no byte of the kind changes, no such block changes, and so nothing changes up to the end of the blocks. Assumes
-- nothing.
use Prim.Native.Nat.{ℕ, zero, suc, ◌+◌, ◌/◌, ◌≤◌, ◌<◌}
use Rattle.lexer.proofs.Basics.{and_left, and_right, and_assoc, and-true, chosen}
use Rattle.lexer.specs.Base.{pick}
use Rattle.lexer.specs.ByteBlocks.{all_first, blocks_behind, blocks_end}
use lib.ListN.{length, get_or, drop, length-drop}
use lib.Seq.{drop-cons, drop-drop}
use mathlib.Core.Bool.{Bool, true, false, ◌&&◌, false≢true}
use mathlib.Core.List.{List, [], ◌∷◌}
use mathlib.Core.Path.{◌≡◌, refl, sym, ap, ◌∙◌}
use native.Mathlib.Nat.{add-div_right, div-eq_of_lt, zero-add, suc-add}
use native.Mathlib.Numerals.{add-one}
use native.Mathlib.Omega.{arith}

-- How many whole blocks are left of so many bytes.
pub whole-block : (size m n : ℕ) → 0 < size → m ≡ n + size → m / size ≡ suc (n / size)
whole-block size m n some e = rw e (add-div_right n some) ∙ add-one (n / size)

module _ (p : ℕ → Bool) where
  -- so many bytes and so many behind them
  all-add : (m n : ℕ) (r : List ℕ) → all_first p (m + n) r ≡ all_first p m r && all_first p n (drop m r)
  unfolding all_first
  all-add zero n r = rw (zero-add n)
  all-add (suc m) n [] = rw (suc-add m n)
  all-add (suc m) n (b ∷ r) = rw (suc-add m n, all-add m n r) (and_assoc (p b) (all_first p m r) (all_first p n (drop m r)))

  all-within : (n : ℕ) (r : List ℕ) → all_first p n r ≡ true → n ≤ length r
  unfolding all_first
  all-within zero r h = omega arith
  all-within (suc n) [] h = absurd (false≢true h)
  all-within (suc n) (b ∷ r) h = let more = all-within n r (and_right (p b) (all_first p n r) h) in omega arith

  module _ (text : List ℕ) where
    all-next : (n i j : ℕ) → i < length text → j ≡ i + 1 → all_first p (suc n) (drop i text) ≡ p (get_or text i 0) && all_first p n (drop j text)
    unfolding all_first
    all-next n i j h e = rw (e, add-one i, drop-cons text i 0)

    -- eight bytes, in two halves as the code tests them
    pub all-eight : (i : ℕ) → i + 8 ≤ length text
        → (p (get_or text i 0) && p (get_or text (i + 1) 0) && p (get_or text (i + 2) 0) && p (get_or text (i + 3) 0))
        && (p (get_or text (i + 4) 0) && p (get_or text (i + 5) 0) && p (get_or text (i + 6) 0) && p (get_or text (i + 7) 0)) ≡ all_first p 8 (drop i text)
    unfolding all_first
    all-eight i room =
        let s = all-next 7 i (i + 1) (omega arith) (omega arith) in
        let s' = all-next 6 (i + 1) (i + 2) (omega arith) (omega arith) in
        let s'' = all-next 5 (i + 2) (i + 3) (omega arith) (omega arith) in
        let s₃ = all-next 4 (i + 3) (i + 4) (omega arith) (omega arith) in
        let s₄ = all-next 3 (i + 4) (i + 5) (omega arith) (omega arith) in
        let s₅ = all-next 2 (i + 5) (i + 6) (omega arith) (omega arith) in
        let s₆ = all-next 1 (i + 6) (i + 7) (omega arith) (omega arith) in
        let s₇ = all-next 0 (i + 7) (i + 8) (omega arith) (omega arith) in
        rw (s, s', s'', s₃, s₄, s₅, s₆, s₇) (simp (and_assoc, and-true))

    -- sixteen bytes, by the tests of both eights
    all-sixteen : (i : ℕ) (a b : Bool) → a ≡ all_first p 8 (drop i text) → b ≡ all_first p 8 (drop (i + 8) text) → a && b ≡ all_first p 16 (drop i text)
    all-sixteen i a b e e' = rw (e, e', ← drop-drop 8 i text) (sym (all-add 8 8 (drop i text)))

    -- so many bytes from an index on are within the text
    all_room : (n i : ℕ) → i ≤ length text → all_first p n (drop i text) ≡ true → i + n ≤ length text
    all_room n i h t = omega (arith, all-within n (drop i text) t, length-drop i text)

    -- Behind the blocks of a size, from an index on.
    module _ (size : ℕ) (some : 0 < size) where
      abbrev end_at : ℕ → ℕ
      end_at i = blocks_end p size i (drop i text)

      left : (i : ℕ) → i + size ≤ length text → length (drop i text) ≡ length (drop (i + size) text) + size
      left i room = omega (arith, length-drop i text, length-drop (i + size) text)

      block-first : (i : ℕ) → i + size ≤ length text → end_at i ≡ pick (all_first p size (drop i text)) (end_at (i + size)) i
      unfolding blocks_end blocks_behind
      block-first i room = rw (whole-block size (length (drop i text)) (length (drop (i + size) text)) some (left i room), drop-drop size i text)

      block-passed : (i : ℕ) → i + size ≤ length text → all_first p size (drop i text) ≡ true → end_at i ≡ end_at (i + size)
      unfolding pick
      block-passed i room t = block-first i room ∙ rw t

      block-stops : (i : ℕ) → i + size ≤ length text → all_first p size (drop i text) ≡ false → end_at i ≡ i
      unfolding pick
      block-stops i room f = block-first i room ∙ rw f

      blocks-over : (i : ℕ) → length text < i + size → end_at i ≡ i
      unfolding blocks_end blocks_behind
      blocks-over i h = let few : length (drop i text) < size = omega (arith, length-drop i text) in rw (div-eq_of_lt few)

    -- behind the blocks is ahead, within the text
    ahead-from : (size n i : ℕ) → i ≤ length text → (i ≤ blocks_behind p size n i (drop i text)) × (blocks_behind p size n i (drop i text) ≤ length text)
    unfolding blocks_behind
    ahead-from size zero i h = (omega arith, h)
    ahead-from size (suc n) i h =
        chosen (λ j. (i ≤ j) × (j ≤ length text)) (all_first p size (drop i text))
        (λ t. let more = rw (← drop-drop size i text) at (ahead-from size n (i + size) (all_room size i h t)) in (omega (arith, more.0), more.1))
        (λ f. (omega arith, h))

    pub blocks-ahead : (size i : ℕ) → i ≤ length text → (i ≤ blocks_end p size i (drop i text)) × (blocks_end p size i (drop i text) ≤ length text)
    unfolding blocks_end
    blocks-ahead size i h = ahead-from size (length (drop i text) / size) i h

    module _ {X : Type 0} (f : ℕ → X) (next : (i : ℕ) → i < length text → p (get_or text i 0) ≡ true → f i ≡ f (i + 1)) where
      -- what no byte of the kind changes, so many of them do not change
      past_all : (n i j : ℕ) → j ≡ i + n → i ≤ length text → all_first p n (drop i text) ≡ true → f i ≡ f j
      past_all zero i j e h t = ap f (omega arith)
      past_all (suc n) i j e h t =
          let lt : i < length text = omega (arith, all_room (suc n) i h t) in
          let both = sym (all-next n i (i + 1) lt refl) ∙ t in
          next i lt (and_left (p (get_or text i 0)) (all_first p n (drop (i + 1) text)) both)
          ∙ past_all n (i + 1) j (omega arith) (omega arith) (and_right (p (get_or text i 0)) (all_first p n (drop (i + 1) text)) both)

      alike_from : (size n i : ℕ) → i ≤ length text → f (blocks_behind p size n i (drop i text)) ≡ f i
      unfolding blocks_behind
      alike_from size zero i h = refl
      alike_from size (suc n) i h =
          chosen (λ j. f j ≡ f i) (all_first p size (drop i text))
          (λ t. rw (drop-drop size i text) (alike_from size n (i + size) (all_room size i h t)) ∙ sym (past_all size i (i + size) refl h t))
          (λ f. refl)

      pub blocks-alike : (size i : ℕ) → i ≤ length text → f (blocks_end p size i (drop i text)) ≡ f i
      unfolding blocks_end
      blocks-alike size i h = alike_from size (length (drop i text) / size) i h

-- What the turns over blocks keep: from here the blocks go as far as they went from the first.
pub record Passing (p : ℕ → Bool) (size : ℕ) (text : List ℕ) (from i : ℕ) : Type 0 where
  pub within : i ≤ length text
  pub rest : blocks_end p size i (drop i text) ≡ blocks_end p size from (drop from text)

module _ (p : ℕ → Bool) (size : ℕ) (some : 0 < size) (text : List ℕ) (from : ℕ) where
  pub passing-start : from ≤ length text → Passing p size text from from
  passing-start h = record { within = h; rest = refl }

  module _ (i : ℕ) (k : Passing p size text from i) where
    pub passing-block : i + size ≤ length text → all_first p size (drop i text) ≡ true → Passing p size text from (i + size)
    passing-block room t = record { within = room; rest = sym (block-passed p text size some i room t) ∙ k.rest }

    pub passing-stops : i + size ≤ length text → all_first p size (drop i text) ≡ false → i ≡ blocks_end p size from (drop from text)
    passing-stops room f = sym (block-stops p text size some i room f) ∙ k.rest

    pub passing-over : length text < i + size → i ≡ blocks_end p size from (drop from text)
    passing-over h = sym (blocks-over p text size some i h) ∙ k.rest

-- Blocks of sixteen, by the tests of both eights.
module _ (p : ℕ → Bool) (text : List ℕ) (from i : ℕ) (k : Passing p 16 text from i) (room : i + 16 ≤ length text) (a b : Bool)
    (e : a ≡ all_first p 8 (drop i text)) (e' : b ≡ all_first p 8 (drop (i + 8) text)) where
  pub passing-sixteen : a && b ≡ true → Passing p 16 text from (i + 16)
  passing-sixteen t = passing-block p 16 (omega arith) text from i k room (sym (all-sixteen p text i a b e e') ∙ t)

  pub sixteen-stops : a && b ≡ false → i ≡ blocks_end p 16 from (drop from text)
  sixteen-stops f = passing-stops p 16 (omega arith) text from i k room (sym (all-sixteen p text i a b e e') ∙ f)
