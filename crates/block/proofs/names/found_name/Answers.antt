use Rattle.block.proofs.KeptNames.{passing-found, passing-free, passing-none, passing-value}
use Rattle.block.specs.NamesHeld.{name_of}
use mathlib.Core.Path.{refl}
use Rattle.block.proofs.names.found_name.Goals as goal

pub returns-then-value-eq0 : goal.returns-then-value-eq0
unfolding name_of
returns-then-value-eq0 c =
    passing-free _ _ _ _ _ _ _ c.loop-p.invariant _ c.requires.0 c.window_end-stop.ensures refl c.requires.1 c.loop-p-test.true c.start_of-value.ensures c.if-value-eq0.true

pub returns-then-slot_alike : goal.returns-then-slot_alike
returns-then-slot_alike c = passing-found _ _ _ _ 0 0 0 c.slot_alike.ensures c.if-slot_alike.true c.if-value-eq0.false

pub returns-in-None : goal.returns-in-None
unfolding name_of
returns-in-None c =
    let told = rw c.in-None.is at c.name_entry.ensures in
    passing-none _ _ _ _ _ _ _ c.loop-p.invariant _ c.requires.0 c.window_end-stop.ensures refl c.requires.1 c.loop-p-test.false told

pub returns-in-Value : goal.returns-in-Value
unfolding name_of
returns-in-Value c =
    let told = rw c.in-Value.is at c.name_entry.ensures in
    passing-value _ _ _ _ _ _ _ c.loop-p.invariant _ c.requires.0 c.window_end-stop.ensures refl c.requires.1 c.loop-p-test.false told.0 told.1 c.slot_alike-in-Value.ensures
