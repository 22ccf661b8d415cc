-- The function `standard_symbols` meets its contract: no LF ends the run, it is too short or too long, or it is the symbols of the line. Assumes nothing.
use mathlib.Core.Path.{sym, ◌∙◌}
use Rattle.judging.proofs.NameJudged.{lf-within}
use Rattle.judging.proofs.OpeningTold.{symbols-not-so-many, symbols-other, symbols-whole}
use native.Mathlib.Omega.{arith}
use Rattle.judging.proofs.symbols.standard_symbols.Goals as goal

pub returns-then-byte_or_zero-ne10 : goal.returns-then-byte_or_zero-ne10
returns-then-byte_or_zero-ne10 c = symbols-other _ _ _ c.symbol_run-end.ensures (λ lf. c.if-byte_or_zero-ne10.true (c.byte_or_zero.ensures ∙ lf))

pub returns-then-count : goal.returns-then-count
returns-then-count c = symbols-not-so-many _ _ _ c.symbol_run-end.ensures c.if-count.true

pub overflow_add-result : goal.overflow_add-result
overflow_add-result c = omega (arith, lf-within c.args.source.now c.symbol_run-end.result (sym c.byte_or_zero.ensures ∙ c.if-byte_or_zero-ne10.false), c.ranges)

pub returns : goal.returns
returns c = symbols-whole _ _ _ c.symbol_run-end.ensures (sym c.byte_or_zero.ensures ∙ c.if-byte_or_zero-ne10.false) c.if-count.false
