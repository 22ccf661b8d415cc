use Rattle.writing.proofs.SymbolsTaken.{free-found, free-next, free-past, taken-none, taken-other, taken-symbol}
use mathlib.Core.Path.{sym, ◌∙◌}
use Rattle.writing.proofs.signs.first_free.Goals.{else-b-other-via-then-b-other+else-not-contains, else-b-other-via-else-b-other}
use Rattle.writing.proofs.signs.first_free.Goals as goal

pub returns-then-not-contains : goal.returns-then-not-contains
returns-then-not-contains c =
    free-found _ _ _ c.loop-b-test.true (taken-none _ _ _ c.if-b-other.true (sym c.contains.ensures.value ∙ c.if-not-contains.true)) ∙ c.loop-b.invariant

pub loop-b-preserved : goal.loop-b-preserved
loop-b-preserved c =
    elim c.else-b-other.branch [
      | else-b-other-via-then-b-other+else-not-contains w ↦
          free-next _ _ _ c.loop-b-test.true (taken-symbol _ _ _ (sym w.contains.ensures.value ∙ w.if-not-contains.false)) ∙ c.loop-b.invariant
      | else-b-other-via-else-b-other w ↦ free-next _ _ _ c.loop-b-test.true (taken-other _ _ _ w.if-b-other.false) ∙ c.loop-b.invariant
    ]

pub returns : goal.returns
returns c = sym (free-past _ _ _ c.loop-b-test.false) ∙ c.loop-b.invariant
