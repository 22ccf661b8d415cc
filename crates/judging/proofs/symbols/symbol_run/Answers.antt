use mathlib.Core.Path.{sym, ◌∙◌}
use Rattle.judging.proofs.SymbolRuns.{any-among, running-again, running-invalid, running-on, running-over, running-start}
use Rattle.judging.proofs.symbols.symbol_run.Goals as goal

pub loop-at-init : goal.loop-at-init
loop-at-init c = running-start _ _

pub returns-then-not-valid_symbol : goal.returns-then-not-valid_symbol
returns-then-not-valid_symbol c = running-invalid _ _ _ c.loop-at.invariant c.loop-at-test.true (sym c.valid_symbol.ensures ∙ c.if-not-valid_symbol.true)

pub returns-then-contains : goal.returns-then-contains
returns-then-contains c = running-again _ _ _ c.loop-at.invariant c.loop-at-test.true (sym c.valid_symbol.ensures ∙ c.if-not-valid_symbol.false) (sym c.if-contains.true ∙ c.contains.ensures.value ∙ any-among _ _)

pub loop-at-preserved : goal.loop-at-preserved
loop-at-preserved c = running-on _ _ _ c.loop-at.invariant c.loop-at-test.true (sym c.valid_symbol.ensures ∙ c.if-not-valid_symbol.false) (sym c.if-contains.false ∙ c.contains.ensures.value ∙ any-among _ _)

pub returns : goal.returns
returns c = running-over _ _ _ c.loop-at.invariant c.loop-at-test.false
