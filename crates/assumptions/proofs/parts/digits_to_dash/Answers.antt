use Prim.Native.Nat.{ℕ, ◌≤◌}
use Rattle.assumptions.proofs.PartWalks.{valuing-start, valuing-dash, valuing-other, valuing-large, valuing-turn, valuing-end}
use Rattle.lexer.proofs.Basics.{and_left, and_right}
use Rattle.lexer.proofs.NextBytes.{yielded}
use borrow.Author.Tests.{leb-true}
use lib.Dec.{leb}
use mathlib.Core.Bool.{true, ◌&&◌}
use mathlib.Core.Path.{◌≡◌}
use native.Mathlib.Omega.{arith}
use Rattle.assumptions.proofs.parts.digits_to_dash.Goals as goal

-- a byte is a digit where the test says so
digit : (b : ℕ) → (leb 48 b && leb b 57) ≡ true → (48 ≤ b) × (b ≤ 57)
digit b t = (leb-true 48 b (and_left (leb 48 b) (leb b 57) t), leb-true b 57 (and_right (leb 48 b) (leb b 57) t))

pub loop-b-init : goal.loop-b-init
loop-b-init c = valuing-start _ _

pub returns-then-b-eq45 : goal.returns-then-b-eq45
returns-then-b-eq45 c = valuing-dash _ _ _ _ c.loop-b.invariant _ _ ((yielded _ _ _ c.next_byte.ensures).byte _ _ c.in-Some.is) c.if-b-eq45.true

pub returns-then-not-digit : goal.returns-then-not-digit
returns-then-not-digit c = valuing-other _ _ _ _ c.loop-b.invariant _ _ ((yielded _ _ _ c.next_byte.ensures).byte _ _ c.in-Some.is) c.if-b-eq45.false c.if-not-digit.true

pub returns-then-v-n : goal.returns-then-v-n
returns-then-v-n c = let h = digit c.in-Some.b c.if-not-digit.false in valuing-large _ _ _ _ c.loop-b.invariant _ _ ((yielded _ _ _ c.next_byte.ensures).byte _ _ c.in-Some.is) c.if-b-eq45.false c.if-not-digit.false (omega arith)

pub loop-b-smaller : goal.loop-b-smaller
loop-b-smaller c = let y = (yielded _ _ _ c.next_byte.ensures).byte _ _ c.in-Some.is in omega arith

pub loop-b-preserved : goal.loop-b-preserved
loop-b-preserved c = let h = digit c.in-Some.b c.if-not-digit.false in valuing-turn _ _ _ _ c.loop-b.invariant _ _ ((yielded _ _ _ c.next_byte.ensures).byte _ _ c.in-Some.is) c.if-b-eq45.false c.if-not-digit.false (omega arith)

pub returns : goal.returns
returns c = valuing-end _ _ _ _ c.loop-b.invariant ((yielded _ _ _ c.next_byte.ensures).end c.in_default.is)
