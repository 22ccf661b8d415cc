use Prim.Native.Nat.{suc, ◌+◌, ◌-◌}
use Rattle.lexer.specs.Base.{bytes}
use mathlib.Core.Path.{◌≡◌, refl}
use native.Mathlib.Omega.{arith}
use Rattle.judging.proofs.ListTold.{listing_start}
use Rattle.judging.proofs.LinesTold.{states-over, states-short, states-step}
use Rattle.judging.proofs.characters.state_lines.Goals as goal

pub loop-state-init : goal.loop-state-init
unfolding bytes
loop-state-init c =
    let all : c.args.count - 0 ≡ c.args.count = omega arith in
    (1, rw all (listing_start _ _ _ _ _ _ _ _ _))

pub returns-in_err-at : goal.returns-in_err-at
unfolding bytes
returns-in_err-at c =
    let one : c.args.count - c.loop-state._state ≡ suc (c.args.count - (c.loop-state._state + 1)) = omega arith in
    rw c.from_residual.ensures (states-short _ _ _ _ _ c.loop-state.invariant one c.in_err-at.ensures refl)

pub loop-state-preserved : goal.loop-state-preserved
unfolding bytes
loop-state-preserved c =
    let one : c.args.count - c.loop-state._state ≡ suc (c.args.count - (c.loop-state._state + 1)) = omega arith in
    states-step _ _ _ _ _ c.loop-state.invariant one c.in_ok-at.ensures _ refl

pub returns : goal.returns
unfolding bytes
returns c = states-over _ _ _ _ _ c.loop-state.invariant (omega arith)
