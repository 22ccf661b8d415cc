-- Blocks of a comment: bytes among which there are no more closing brackets than comments are open cannot hold the comment's end, so that only
-- the count of the brackets matters. Assumes nothing.
use Prim.Native.Nat.{ℕ, zero, suc, ◌+◌, ◌-◌, ◌*◌, ◌/◌, ◌≤◌, ◌<◌}
use Rattle.lexer.proofs.Basics.{by-test, chosen}
use Rattle.lexer.proofs.ByteBlocks.{whole-block}
use Rattle.lexer.proofs.EndTurns.{Commenting, comment-closes, comment-opens, comment-goes-on}
use Rattle.lexer.specs.Base.{pick}
use Rattle.lexer.specs.ByteBlocks.{Nested, nested, comment_behind, comment_blocks, count_in}
use Rattle.lexer.specs.Scanning.{comment_end}
use borrow.Author.Tests.{eqb-true, eqb-false, ne_eqb, ltb-false, lt-ltb, le-ltb}
use lib.Dec.{eqb, ltb}
use lib.ListN.{length, get_or, drop, length-drop}
use lib.Seq.{drop-cons, drop-drop}
use mathlib.Core.Bool.{Bool, true, false}
use mathlib.Core.List.{List, [], ◌∷◌}
use mathlib.Core.Path.{◌≡◌, refl, sym, ap, ◌∙◌}
use mir.Val.{bool_byte}
use native.Mathlib.Nat.{div-eq_of_lt, div-mul-le_self}
use native.Mathlib.Numerals.{add-one}
use native.Mathlib.Omega.{arith}

module _ (text : List ℕ) where
  -- how many of so many bytes from an index on are this one
  abbrev count_at : ℕ → ℕ → ℕ → ℕ
  count_at b n i = count_in b n (drop i text)

  count_next : (b n i j : ℕ) → i < length text → j ≡ i + 1 → count_at b (suc n) i ≡ pick (eqb (get_or text i 0) b) 1 0 + count_at b n j
  unfolding count_in
  count_next b n i j h e = rw (e, add-one i, drop-cons text i 0)

  count-hit : (b n i j : ℕ) → i < length text → j ≡ i + 1 → eqb (get_or text i 0) b ≡ true → count_at b (suc n) i ≡ 1 + count_at b n j
  unfolding pick
  count-hit b n i j h e t = rw t at (count_next b n i j h e)

  count-miss : (b n i j : ℕ) → i < length text → j ≡ i + 1 → eqb (get_or text i 0) b ≡ false → count_at b (suc n) i ≡ 0 + count_at b n j
  unfolding pick
  count-miss b n i j h e t = rw t at (count_next b n i j h e)

  -- a test as a number
  as-number : (t : Bool) → bool_byte t ≡ pick t 1 0
  unfolding pick
  as-number true = refl
  as-number false = refl

  pub count-eight : (b i o o' o'' o₃ o₄ o₅ o₆ o₇ : ℕ) → i + 8 ≤ length text → o ≡ bool_byte (eqb (get_or text i 0) b)
      → o' ≡ bool_byte (eqb (get_or text (i + 1) 0) b) → o'' ≡ bool_byte (eqb (get_or text (i + 2) 0) b) → o₃ ≡ bool_byte (eqb (get_or text (i + 3) 0) b)
      → o₄ ≡ bool_byte (eqb (get_or text (i + 4) 0) b) → o₅ ≡ bool_byte (eqb (get_or text (i + 5) 0) b) → o₆ ≡ bool_byte (eqb (get_or text (i + 6) 0) b)
      → o₇ ≡ bool_byte (eqb (get_or text (i + 7) 0) b) → o + o' + o'' + o₃ + o₄ + o₅ + o₆ + o₇ ≡ count_at b 8 i
  unfolding count_in
  count-eight b i o o' o'' o₃ o₄ o₅ o₆ o₇ room e e' e'' e₃ e₄ e₅ e₆ e₇ =
      let s = count_next b 7 i (i + 1) (omega arith) (omega arith) in
      let s' = count_next b 6 (i + 1) (i + 2) (omega arith) (omega arith) in
      let s'' = count_next b 5 (i + 2) (i + 3) (omega arith) (omega arith) in
      let s₃ = count_next b 4 (i + 3) (i + 4) (omega arith) (omega arith) in
      let s₄ = count_next b 3 (i + 4) (i + 5) (omega arith) (omega arith) in
      let s₅ = count_next b 2 (i + 5) (i + 6) (omega arith) (omega arith) in
      let s₆ = count_next b 1 (i + 6) (i + 7) (omega arith) (omega arith) in
      let s₇ = count_next b 0 (i + 7) (i + 8) (omega arith) (omega arith) in
      let z = none (i + 8) in
      let t = e ∙ as-number _ in
      let t' = e' ∙ as-number _ in
      let t'' = e'' ∙ as-number _ in
      let t₃ = e₃ ∙ as-number _ in
      let t₄ = e₄ ∙ as-number _ in
      let t₅ = e₅ ∙ as-number _ in
      let t₆ = e₆ ∙ as-number _ in
      let t₇ = e₇ ∙ as-number _ in
      omega arith
    where
      none : (j : ℕ) → count_at b 0 j ≡ 0
      none j = refl

  pub count_most : (b n i : ℕ) → count_at b n i ≤ n
  unfolding count_in
  count_most b n i = go n (drop i text)
    where
      go : (n : ℕ) (r : List ℕ) → count_in b n r ≤ n
      go zero r = omega arith
      go (suc n) [] = omega arith
      go (suc n) (c ∷ r) = let more = go n r in chosen (λ k. k + count_in b n r ≤ suc n) (eqb c b) (λ t. omega (arith, more)) (λ f. omega (arith, more))

  -- One byte more in front of n bytes up to j.
  comment-byte : (mark n d d' i j : ℕ) → i < length text → count_at 93 (suc n) i ≤ d → d' + count_at 93 (suc n) i ≡ d + count_at 91 (suc n) i
      → ((e : ℕ) → count_at 93 n (i + 1) ≤ e → d' + count_at 93 n (i + 1) ≡ e + count_at 91 n (i + 1) → comment_end mark e (i + 1) (drop (i + 1) text) ≡ comment_end mark d' j (drop j text))
      → comment_end mark d i (drop i text) ≡ comment_end mark d' j (drop j text)
  comment-byte mark n d d' i j lt few sum behind = by-test (eqb (get_or text i 0) 91) opening (λ f. by-test (eqb (get_or text i 0) 93) (closing f) (other f))
    where
      opening : eqb (get_or text i 0) 91 ≡ true → comment_end mark d i (drop i text) ≡ comment_end mark d' j (drop j text)
      opening t =
          let b = eqb-true (get_or text i 0) 91 t in
          let o = count-hit 91 n i (i + 1) lt refl t in
          let c = count-miss 93 n i (i + 1) lt refl (ne_eqb (get_or text i 0) 93 (λ z. omega arith)) in
          comment-opens text mark i lt b d ∙ behind (d + 1) (omega arith) (omega arith)

      closing : eqb (get_or text i 0) 91 ≡ false → eqb (get_or text i 0) 93 ≡ true → comment_end mark d i (drop i text) ≡ comment_end mark d' j (drop j text)
      closing f t =
          let o = count-miss 91 n i (i + 1) lt refl f in
          let c = count-hit 93 n i (i + 1) lt refl t in
          comment-closes text mark i lt (eqb-true (get_or text i 0) 93 t) d (λ z. omega arith) ∙ behind (d - 1) (omega arith) (omega arith)

      other : eqb (get_or text i 0) 91 ≡ false → eqb (get_or text i 0) 93 ≡ false → comment_end mark d i (drop i text) ≡ comment_end mark d' j (drop j text)
      other f g =
          let o = count-miss 91 n i (i + 1) lt refl f in
          let c = count-miss 93 n i (i + 1) lt refl g in
          comment-goes-on text mark i lt (eqb-false (get_or text i 0) 91 f) (eqb-false (get_or text i 0) 93 g) d ∙ behind d (omega arith) (omega arith)

  -- A block of n bytes from i on, up to j.
  comment-block : (mark n d d' i j : ℕ) → j ≡ i + n → j ≤ length text → count_at 93 n i ≤ d → d' + count_at 93 n i ≡ d + count_at 91 n i
      → comment_end mark d i (drop i text) ≡ comment_end mark d' j (drop j text)
  unfolding count_in
  comment-block mark zero d d' i j e room few sum =
      let same : j ≡ i = omega arith in
      let deep : d' ≡ d = omega arith in
      rw (same, deep)
  comment-block mark (suc n) d d' i j e room few sum = comment-byte mark n d d' i j (omega arith) few sum (λ k less as-much. comment-block mark n k d' (i + 1) j (omega arith) room less as-much)

  -- How far the blocks go from an index on, where so many more comments are open.
  abbrev blocks_at : ℕ → ℕ → Nested
  blocks_at d i = comment_blocks d i (drop i text)

  block-first : (d i : ℕ) → i + 8 ≤ length text
      → blocks_at d i ≡ pick (ltb d (count_at 93 8 i)) (nested d i) (blocks_at (d - count_at 93 8 i + count_at 91 8 i) (i + 8))
  unfolding comment_blocks comment_behind
  block-first d i room =
      let left : length (drop i text) ≡ length (drop (i + 8) text) + 8 = omega (arith, length-drop i text, length-drop (i + 8) text) in
      rw (whole-block 8 (length (drop i text)) (length (drop (i + 8) text)) (omega arith) left, drop-drop 8 i text)

  -- What the loop asks of a block, with the counts by other names.
  module _ (d i closing : ℕ) (c : closing ≡ count_at 93 8 i) (room : i + 8 ≤ length text) where
    block-passed : (opening : ℕ) → opening ≡ count_at 91 8 i → closing ≤ d → blocks_at d i ≡ blocks_at (d - closing + opening) (i + 8)
    unfolding pick
    block-passed opening o few = block-first d i room ∙ rw (← c, ← o, le-ltb d closing few)

    block-stops : d < closing → blocks_at d i ≡ nested d i
    unfolding pick
    block-stops many = block-first d i room ∙ rw (← c, lt-ltb d closing many)

  blocks-over : (d i : ℕ) → length text < i + 8 → blocks_at d i ≡ nested d i
  unfolding comment_blocks comment_behind
  blocks-over d i h = let few : length (drop i text) < 8 = omega (arith, length-drop i text) in rw (div-eq_of_lt few)

-- A place in a comment with so many open, and one further on: from both the comment ends alike. No more are open than bytes stand before it.
record Alike (text : List ℕ) (depth from : ℕ) (n : Nested) : Type 0 where
  ahead : from ≤ n.at
  within : n.at ≤ length text
  low : n.depth ≤ n.at
  rest : (mark : ℕ) → comment_end mark n.depth n.at (drop n.at text) ≡ comment_end mark depth from (drop from text)

module _ (text : List ℕ) where
  alike-here : (d i : ℕ) → i ≤ length text → d ≤ i → Alike text d i (nested d i)
  unfolding nested
  alike-here d i h low = record { ahead = omega arith; within = h; low = low; rest = λ mark. refl }

  -- a block in which the comment cannot end, and what is behind it
  alike-behind : (d i : ℕ) (n : Nested) → i + 8 ≤ length text → d ≤ i → count_at text 93 8 i ≤ d
      → (d - count_at text 93 8 i + count_at text 91 8 i ≤ i + 8 → Alike text (d - count_at text 93 8 i + count_at text 91 8 i) (i + 8) n) → Alike text d i n
  alike-behind d i n room low few more =
      let d' = d - count_at text 93 8 i + count_at text 91 8 i in
      let m = more (omega (arith, count_most text 91 8 i)) in
      record {
        ahead = omega (arith, m.ahead);
        within = m.within;
        low = m.low;
        rest = λ mark. m.rest mark ∙ sym (comment-block text mark 8 d d' i (i + 8) refl room few (omega arith));
      }

  alike_from : (n d i : ℕ) → i + n * 8 ≤ length text → d ≤ i → Alike text d i (comment_behind n d i (drop i text))
  unfolding comment_behind
  alike_from zero d i room low = alike-here d i (omega arith) low
  alike_from (suc n) d i room low =
      chosen (λ m. Alike text d i m) (ltb d (count_at text 93 8 i)) (λ t. alike-here d i (omega arith) low)
      (λ f. alike-behind d i _ (omega arith) low (ltb-false d (count_at text 93 8 i) f) (λ less. rw (drop-drop 8 i text) (alike_from n _ (i + 8) (omega arith) less)))

  -- where the blocks end, the comment ends as from their first
  blocks-alike : (d i : ℕ) → i ≤ length text → d ≤ i → Alike text d i (comment_blocks d i (drop i text))
  unfolding comment_blocks
  blocks-alike d i h low = alike_from (length (drop i text) / 8) d i (omega (arith, div-mul-le_self (length (drop i text)) 8, length-drop i text)) low

-- What the turns over blocks keep: from here the blocks go as far as they went from the first.
pub record Passing (text : List ℕ) (depth from deep i : ℕ) : Type 0 where
  pub within : i ≤ length text
  pub low : deep ≤ i
  pub rest : comment_blocks deep i (drop i text) ≡ comment_blocks depth from (drop from text)

pub passing-start : (text : List ℕ) (depth from : ℕ) → from ≤ length text → depth ≤ from → Passing text depth from depth from
passing-start text depth from h low = record { within = h; low = low; rest = refl }

module _ (text : List ℕ) (depth from deep i closing : ℕ) (k : Passing text depth from deep i) (room : i + 8 ≤ length text)
    (c : closing ≡ count_in 93 8 (drop i text)) where
  pub passing-block : (opening : ℕ) → opening ≡ count_in 91 8 (drop i text) → opening ≤ 8 → closing ≤ deep
      → Passing text depth from (deep - closing + opening) (i + 8)
  passing-block opening o most few =
      record { within = room; low = omega (arith, k.low); rest = sym (block-passed text deep i closing c room opening o few) ∙ k.rest }

  pub passing-stops : deep < closing → (i ≡ (comment_blocks depth from (drop from text)).at) × (deep ≡ (comment_blocks depth from (drop from text)).depth)
  unfolding nested
  passing-stops many = let e = sym (block-stops text deep i closing c room many) ∙ k.rest in (ap (λ n. n.at) e, ap (λ n. n.depth) e)

pub passing-over : (text : List ℕ) (depth from deep i : ℕ) → Passing text depth from deep i → length text < i + 8
    → (i ≡ (comment_blocks depth from (drop from text)).at) × (deep ≡ (comment_blocks depth from (drop from text)).depth)
unfolding nested
passing-over text depth from deep i k h = let e = sym (blocks-over text deep i h) ∙ k.rest in (ap (λ n. n.at) e, ap (λ n. n.depth) e)

-- The turns of the loop over a comment: at its start, behind a closing bracket, and behind blocks in which it cannot end.
pub commenting-start : (text : List ℕ) (mark : ℕ) → mark < length text → Commenting text mark 0 (mark + 1)
commenting-start text mark h = record { within = omega arith; deep = omega arith; rest = refl }

pub commenting-closes : (text : List ℕ) (mark d i : ℕ) → Commenting text mark d i → i < length text → get_or text i 0 ≡ 93 → (d ≡ 0 → ⊥)
    → Commenting text mark (d - 1) (i + 1)
commenting-closes text mark d i k h b some =
    record { within = omega arith; deep = omega (arith, k.deep); rest = sym (comment-closes text mark i h b d some) ∙ k.rest }

module _ (text : List ℕ) (mark d i d' j : ℕ) (k : Commenting text mark d i)
    (e : (j ≡ (comment_blocks d i (drop i text)).at) × (d' ≡ (comment_blocks d i (drop i text)).depth)) where
  pub commenting-ahead : i ≤ j
  commenting-ahead = rw e.0 (blocks-alike text d i k.within k.deep).ahead

  pub commenting-blocks : Commenting text mark d' j
  commenting-blocks =
      let a = blocks-alike text d i k.within k.deep in
      rw (e.0, e.1) (record { within = a.within; deep = a.low; rest = a.rest mark ∙ k.rest })
