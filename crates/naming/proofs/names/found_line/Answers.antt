use Rattle.naming.proofs.EntryLaws.{sought-found, sought-turn, sought-none}
use Rattle.naming.proofs.EntryLaws.{any-known}
use mathlib.Core.Path.{◌∙◌}
use Rattle.naming.proofs.names.found_line.Goals as goal

pub returns-then-value-eq0 : goal.returns-then-value-eq0
returns-then-value-eq0 c = sought-none _ _ _ _ _ _ _ c.loop-p.invariant c.loop-p-test.true c.start_of-value.ensures c.if-value-eq0.true

pub returns-then-slot_like : goal.returns-then-slot_like
returns-then-slot_like c = sought-found _ _ _ _ _ _ _ c.loop-p.invariant c.slot_like.ensures c.if-slot_like.true

pub loop-p-preserved : goal.loop-p-preserved
loop-p-preserved c =
    sought-turn _ _ _ _ _ _ _ c.loop-p.invariant c.loop-p-test.true c.start_of-value.ensures c.slot_like.ensures c.if-slot_like.false

pub returns : goal.returns
returns c = c.known_line.ensures ∙ any-known _ _ _
