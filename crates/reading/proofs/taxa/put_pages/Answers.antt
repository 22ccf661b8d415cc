use Prim.Native.Nat.{◌+◌}
use Rattle.emit.specs.Puts.{last_place}
use Rattle.reading.proofs.LinesWalk.{lining-end, lining-start, lining-turn}
use mathlib.Core.Path.{refl, ap, ◌∙◌}
use native.Mathlib.Omega.{arith}
use Rattle.reading.proofs.taxa.put_pages.Goals as goal

pub loop-at-init : goal.loop-at-init
unfolding last_place
loop-at-init c = (refl, omega arith, lining-start _ _ _ _ _ _ _ _ _ _)

pub loop-at-preserved : goal.loop-at-preserved
unfolding last_place
loop-at-preserved c = (
  c.put_line-m.ensures.kept ∙ c.loop-at.invariant.0,
  omega arith,
  lining-turn _ _ _ _ _ _ _ _ _ _ _ _ _ c.loop-at.invariant.2 _ c.loop-at-test.true (ap (λ x. x + 1) c.start_of-from.ensures) (omega (arith, c.well_formed)) (omega arith) (omega arith) c.put_line-m.ensures.put,
)

pub returns : goal.returns
returns c = record { kept = c.loop-at.invariant.0; put = lining-end _ _ _ _ _ _ _ _ _ _ _ _ _ c.loop-at.invariant.2 c.loop-at-test.false }

pub returns-2 : goal.returns-2
unfolding last_place
returns-2 c =
    let turn = lining-turn _ _ _ _ _ _ _ _ _ _ _ _ _ c.loop-at.invariant.2 _ c.loop-at-test.true (ap (λ x. x + 1) c.start_of-from.ensures) (omega (arith, c.well_formed)) (omega arith) (omega arith) c.put_line-m.ensures.put in
    record { kept = c.put_line-m.ensures.kept ∙ c.loop-at.invariant.0; put = lining-end _ _ _ _ _ _ _ _ _ _ _ _ _ turn (omega arith) }
