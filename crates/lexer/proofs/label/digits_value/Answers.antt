use Prim.Native.Nat.{ℕ, ◌≤◌}
use Rattle.lexer.proofs.Basics.{and_left, and_right}
use Rattle.lexer.proofs.NextBytes.{yielded}
use Rattle.lexer.proofs.TextWalks.{counting-turn, counting-other, counting-large, counting-end}
use Rattle.lexer.proofs.label.digits_value.Goals as goal
use borrow.Author.Tests.{leb-true}
use lib.Dec.{leb}
use mathlib.Core.Bool.{true, ◌&&◌}
use mathlib.Core.Path.{◌≡◌, refl}
use native.Mathlib.Omega.{arith}

-- a byte is a digit where the test says so
digit : (b : ℕ) → (leb 48 b && leb b 57) ≡ true → (48 ≤ b) × (b ≤ 57)
digit b t = (leb-true 48 b (and_left (leb 48 b) (leb b 57) t), leb-true b 57 (and_right (leb 48 b) (leb b 57) t))

pub loop-b-init : goal.loop-b-init
loop-b-init c = record { small = omega arith; rest = refl }

pub returns-then-not-digit : goal.returns-then-not-digit
returns-then-not-digit c =
    let read = (yielded _ _ _ c.next_byte.ensures).byte _ _ c.in-Some.is in
    counting-other _ _ _ _ c.loop-b.invariant _ _ read c.if-not-digit.true

pub overflow_sub-v : goal.overflow_sub-v
overflow_sub-v c = let h = digit c.in-Some.b c.if-not-digit.false in omega arith

pub overflow_cast-v : goal.overflow_cast-v
overflow_cast-v c = let h = digit c.in-Some.b c.if-not-digit.false in omega arith

pub overflow_sub-v-in-Some : goal.overflow_sub-v-in-Some
overflow_sub-v-in-Some c = let h = digit c.in-Some.b c.if-not-digit.false in omega arith

pub returns-then-v-n : goal.returns-then-v-n
returns-then-v-n c =
    let h = digit c.in-Some.b c.if-not-digit.false in
    let read = (yielded _ _ _ c.next_byte.ensures).byte _ _ c.in-Some.is in
    counting-large _ _ _ _ c.loop-b.invariant _ _ read c.if-not-digit.false (omega arith)

pub overflow_mul-n : goal.overflow_mul-n
overflow_mul-n c = let h = digit c.in-Some.b c.if-not-digit.false in omega arith

pub overflow_add-n : goal.overflow_add-n
overflow_add-n c = let h = digit c.in-Some.b c.if-not-digit.false in omega arith

pub loop-b-smaller : goal.loop-b-smaller
loop-b-smaller c = let y = (yielded _ _ _ c.next_byte.ensures).byte _ _ c.in-Some.is in omega arith

pub loop-b-preserved : goal.loop-b-preserved
loop-b-preserved c =
    let h = digit c.in-Some.b c.if-not-digit.false in
    let read = (yielded _ _ _ c.next_byte.ensures).byte _ _ c.in-Some.is in
    counting-turn _ _ _ _ c.loop-b.invariant _ _ read c.if-not-digit.false (omega arith)

pub returns : goal.returns
returns c = counting-end _ _ _ _ c.loop-b.invariant ((yielded _ _ _ c.next_byte.ensures).end c.in_default.is)
