use Rattle.lexer.proofs.StepLaws.{step_skip, step-token, step-open}
use Rattle.lexer.proofs.Storing.{storing-start, storing-skip, storing-token, storing-end, storing-open}
use Rattle.std.proofs.lemmas.Result.{err_from_is_err_and}
use mathlib.Core.Path.{sym}
use native.Mathlib.Omega.{arith}
use Rattle.lexer.proofs.lexing.store_starts.Goals as goal

pub loop-i-init : goal.loop-i-init
loop-i-init c = rw c.first_byte-i.ensures (storing-start _ _ c.requires.1)

pub loop-i-smaller-in-Skip : goal.loop-i-smaller-in-Skip
loop-i-smaller-in-Skip c =
    let k = step_skip _ _ _ c.loop-i-test.true (rw c.in-Skip.is at (sym c.in_ok-j.ensures)) in
    omega arith

pub loop-i-preserved-in-Skip : goal.loop-i-preserved-in-Skip
loop-i-preserved-in-Skip c =
    storing-skip _ _ _ _ _ c.loop-i.invariant _ (step_skip _ _ _ c.loop-i-test.true (rw c.in-Skip.is at (sym c.in_ok-j.ensures)))

pub overflow_cast-work : goal.overflow_cast-work
overflow_cast-work c = omega arith

pub offset_bounds-work-n : goal.offset_bounds-work-n
offset_bounds-work-n c = omega arith

pub bounds-work-n : goal.bounds-work-n
bounds-work-n c = omega arith

pub overflow_add-n : goal.overflow_add-n
overflow_add-n c = omega arith

pub loop-i-smaller : goal.loop-i-smaller
loop-i-smaller c =
    let k = step-token _ _ _ c.loop-i-test.true (rw c.in-Token.is at (sym c.in_ok-j.ensures)) in
    omega arith

pub loop-i-preserved : goal.loop-i-preserved
loop-i-preserved c =
    storing-token _ _ _ _ _ c.loop-i.invariant _ (step-token _ _ _ c.loop-i-test.true (rw c.in-Token.is at (sym c.in_ok-j.ensures)))

pub shape_of-work-in_err-j : goal.shape_of-work-in_err-j
shape_of-work-in_err-j c = c.loop-i.invariant.kept

pub returns-in_err-j : goal.returns-in_err-j
returns-in_err-j c =
    let p = err_from_is_err_and c.from_residual.result c.from_residual.ensures.1 in
    let all = storing-open _ _ _ _ _ c.loop-i.invariant _ (step-open _ _ _ c.loop-i-test.true (sym c.in_err-j.ensures)) in
    rw (p.1, p.2) all

pub shape_of-work : goal.shape_of-work
shape_of-work c = c.loop-i.invariant.kept

pub returns : goal.returns
returns c = storing-end _ _ _ _ _ c.loop-i.invariant c.loop-i-test.false
