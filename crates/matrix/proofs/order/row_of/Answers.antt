use Rattle.lexer.specs.Base.{option_of}
use Rattle.matrix.proofs.PlaceWalk.{placing-start, placing-turn, placing-found, placing-end}
use Rattle.matrix.specs.Lines.{name_at}
use mathlib.Core.Path.{refl, sym, ◌∙◌}
use Rattle.matrix.proofs.order.row_of.Goals as goal

pub loop-k-init : goal.loop-k-init
loop-k-init c = placing-start _ _ _ _ _ c.requires

pub returns-then-alike-clause-result_value : goal.returns-then-alike-clause-result_value
unfolding name_at option_of
returns-then-alike-clause-result_value c =
    placing-found _ _ _ _ _ _ c.loop-k.invariant c.loop-k-test.true (rw (← c.row_name.ensures c.loop-k.k refl) (sym c.alike.ensures ∙ c.if-alike.true))

pub loop-k-preserved : goal.loop-k-preserved
unfolding name_at
loop-k-preserved c = placing-turn _ _ _ _ _ _ c.loop-k.invariant c.loop-k-test.true (rw (← c.row_name.ensures c.loop-k.k refl) (sym c.alike.ensures ∙ c.if-alike.false))

pub returns-clause-result_value : goal.returns-clause-result_value
unfolding option_of
returns-clause-result_value c = placing-end _ _ _ _ _ _ c.loop-k.invariant c.loop-k-test.false
