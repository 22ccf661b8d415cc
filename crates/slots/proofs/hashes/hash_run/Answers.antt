use Rattle.slots.proofs.HashLaws.{run-turn, run-end}
use Rattle.slots.specs.Hashes.{hash}
use mathlib.Core.Path.{refl}
use native.Mathlib.Omega.{arith}
use Rattle.slots.proofs.hashes.hash_run.Goals as goal

pub loop-b-init : goal.loop-b-init
unfolding hash
loop-b-init c = record { small = omega arith; rest = refl }

pub mixed-h-requires : goal.mixed-h-requires
mixed-h-requires c = c.loop-b.invariant.small

pub loop-b-preserved : goal.loop-b-preserved
loop-b-preserved c = run-turn _ _ _ c.loop-b.invariant c.loop-b-test.true _ c.mixed-h.ensures

pub returns : goal.returns
returns c = run-end _ _ _ c.loop-b.invariant c.loop-b-test.false
