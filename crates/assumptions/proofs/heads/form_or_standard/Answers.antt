-- The function `form_or_standard` meets its contract. Assumes nothing.
use Rattle.assumptions.proofs.NextWordLaws.{missed}
use Rattle.assumptions.proofs.TypesetWalks.{at-end, at_done, at-alike}
use Rattle.assumptions.specs.TypesetWalk.{set_of, form_then}
use Rattle.block.specs.Typeset.{named, form, equals, typeset_turn, typeset_end}
use Rattle.lexer.specs.Base.{pick}
use mathlib.Core.Path.{sym, ◌∙◌}
use Rattle.assumptions.proofs.heads.form_or_standard.Goals as goal

pub returns-in_err-i : goal.returns-in_err-i
unfolding form_then typeset_end set_of
returns-in_err-i c = λ n. let p = missed c.word_ahead.ensures _ c.from_residual.ensures.1 c.in_err-i.ensures.value c.in_err-i.ensures.ok_part in rw p.0 (at-end (set_of n _) _ _ _ named _ p.1)

pub returns-then-punct : goal.returns-then-punct
unfolding typeset_turn pick
returns-then-punct c = λ n. c.form_from.ensures n ∙ at_done (set_of n _) _ _ _ named (c.word_ahead.ensures.some _ c.in_ok-i.ensures.ok_part) form (rw (sym c.punct.ensures ∙ c.if-punct.true))

pub returns : goal.returns
unfolding form_then typeset_turn pick
returns c = λ n. at-alike (set_of n _) _ _ _ named (c.word_ahead.ensures.some _ c.in_ok-i.ensures.ok_part) (equals _) (rw (sym c.punct.ensures ∙ c.if-punct.false))
