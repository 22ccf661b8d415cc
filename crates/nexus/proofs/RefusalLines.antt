-- The lines of a refusal are short, and what was put of them stands at the front of a buffer that has room. Assumes nothing.
use Prim.Native.Nat.{ℕ, zero, suc, ◌+◌, ◌*◌, ◌/◌, ◌^◌, ◌≤◌, ◌<◌}
use Rattle.emit.proofs.PutLaws.{puts_whole, puts_then}
use Rattle.emit.specs.Puts.{Puts}
use Rattle.lexer.proofs.Basics.{by-test}
use Rattle.lexer.specs.Base.{pick, bytes}
use Rattle.nexus.specs.Printing.{InFront}
use Rattle.record.specs.Decimal.{digit, decimal_from, decimal}
use Rattle.record.specs.Demands.{refusal_lines}
use Rattle.record.specs.Spell.{line}
use borrow.Author.Tests.{ltb-false}
use lib.Dec.{ltb}
use lib.ListN.{length, drop, length-append}
use lib.Seq.{take_at}
use mathlib.Core.List.{List, [], ◌∷◌, ◌++◌}
use mathlib.Core.Path.{◌≡◌, sym}
use native.Mathlib.Nat.{pow-suc}
use native.Mathlib.Omega.{arith}

-- Without its last digit a number has one digit less.
tenth-less : (d n : ℕ) → n < 10 ^ suc (suc d) → n / 10 < 10 ^ suc d
tenth-less d n h =
    let fewer : n < 10 ^ suc d * 10 = rw (pow-suc 10 (suc d)) at h in
    omega arith

digits-few : (d k n : ℕ) (behind : List ℕ) → n < 10 ^ suc d → length (decimal_from k n behind) ≤ suc d + length behind
unfolding decimal_from pick
digits-few d zero n behind h = omega arith
digits-few zero (suc k) n behind h = by-test (ltb n 10) (λ t. rw t (omega arith)) (λ f. absurd (omega (arith, ltb-false n 10 f)))
digits-few (suc d) (suc k) n behind h =
    by-test (ltb n 10)
    (λ t. rw t (omega arith))
    (λ f. let fewer = digits-few d k (n / 10) (digit n ∷ behind) (tenth-less d n h) in rw f (omega arith))

-- A number of 64 bits has at most twenty digits.
decimal-few : (n : ℕ) → n < 2 ^ 64 → length (decimal n) ≤ 20
unfolding decimal
decimal-few n h = let few = digits-few 19 n n [] (omega arith) in omega arith

module _ (n l c : ℕ) (small : n < 2 ^ 64) (little : l < 2 ^ 64) (low : c < 2 ^ 64) where
  lines-few : length (refusal_lines n l c) ≤ 83
  unfolding line bytes
  lines-few =
      simp length-append (omega (arith, decimal-few n small, decimal-few l little, decimal-few c low))

  -- The three lines, put one behind another.
  pub lines-front : {before a b after : List ℕ} {i j r : ℕ} → 65536 ≡ length before
      → Puts before 0 (λ behind. bytes "refused=" ++ (decimal n ++ (10 ∷ behind))) a i
      → Puts a i (λ behind. bytes "line=" ++ (decimal l ++ (10 ∷ behind))) b j
      → Puts b j (λ behind. bytes "column=" ++ (decimal c ++ (10 ∷ behind))) after r
      → InFront (refusal_lines n l c) after r
  unfolding line
  lines-front {before} {after = after} {r = r} room one two three =
      let whole = puts_whole before after (λ behind. line "refused=" (decimal n) (line "line=" (decimal l) (line "column=" (decimal c) behind))) r (puts_then (puts_then one two) three) (omega (arith, lines-few)) (omega arith) in
      record {
        within = omega (arith, lines-few, whole.1, one.kept, two.kept, three.kept);
        bytes = rw whole.0 (take_at (refusal_lines n l c) (drop (length (refusal_lines n l c)) before) r (sym whole.1));
      }
