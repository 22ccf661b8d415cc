use Prim.Native.Nat.{◌+◌}
use Rattle.lexer.proofs.AsciiRuns.{run-forward, checking-ascii}
use Rattle.lexer.proofs.Utf8Checking.{checking-start, checking-turn, checking-refused, checking-end, from-lead, from-no-lead, from-later, from-no-later}
use lib.ListN.{drop}
use native.Mathlib.Omega.{arith}
use Rattle.lexer.proofs.utf8.is_utf8.Goals as goal

pub loop-i-init : goal.loop-i-init
loop-i-init c = let f = c.follows_by-f.ensures in rw (f.0, f.1, f.2) (checking-start _)

pub returns-then-b-f : goal.returns-then-b-f
returns-then-b-f c =
    checking-refused _ _ _ _ _ c.loop-i.invariant c.loop-i-test.true (from-no-later _ _ _ _ c.loop-i.f.more c.if-f-ne0.true c.if-b-f.true)

pub loop-i-preserved-then-f-ne0 : goal.loop-i-preserved-then-f-ne0
loop-i-preserved-then-f-ne0 c =
    let f = c.follows_by-f-then-f-ne0.ensures in
    rw (f.0, f.1, f.2) (checking-turn _ _ _ _ _ c.loop-i.invariant c.loop-i-test.true _ _ _ (from-later _ _ _ _ c.loop-i.f.more c.if-f-ne0.true c.if-b-f.false))

pub loop-i-smaller-then-b-lt128 : goal.loop-i-smaller-then-b-lt128
loop-i-smaller-then-b-lt128 c =
    omega (arith, c.ascii_run-i.ensures, run-forward (drop (c.loop-i.i + 1) c.args.text.now) (c.loop-i.i + 1))

pub loop-i-preserved-then-b-lt128 : goal.loop-i-preserved-then-b-lt128
loop-i-preserved-then-b-lt128 c =
    checking-ascii _ _ _ _ _ _ c.loop-i.invariant c.loop-i-test.true c.if-f-ne0.false c.if-b-lt128.true c.ascii_run-i.ensures

pub returns-then-b : goal.returns-then-b
returns-then-b c =
    checking-refused _ _ _ _ _ c.loop-i.invariant c.loop-i-test.true (rw c.if-f-ne0.false (from-no-lead _ _ _ _ c.if-b-lt128.false c.if-b.true))

pub loop-i-preserved : goal.loop-i-preserved
loop-i-preserved c =
    let f = c.after_lead-f.ensures in
    checking-turn _ _ _ _ _ c.loop-i.invariant c.loop-i-test.true _ _ _
    (rw (c.if-f-ne0.false, f.0, f.1, f.2) (from-lead _ _ _ _ c.if-b-lt128.false c.if-b.false))

pub returns : goal.returns
returns c = checking-end _ _ _ _ _ c.loop-i.invariant c.loop-i-test.false
