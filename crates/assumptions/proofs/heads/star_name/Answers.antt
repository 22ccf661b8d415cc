-- The function `star_name` meets its contract. Assumes nothing.
use Rattle.assumptions.proofs.NextWordLaws.{missed}
use Rattle.assumptions.proofs.TypesetWalks.{at-end, at_done, at-alike}
use Rattle.assumptions.specs.TypesetWalk.{set_of}
use Rattle.block.specs.Typeset.{star, name, typeset_turn, typeset_end}
use Rattle.lexer.specs.Base.{pick}
use mathlib.Core.Path.{sym, ◌∙◌}
use Rattle.block.specs.Outcome.{outcome, then}
use Rattle.assumptions.proofs.heads.star_name.Goals as goal

pub returns-in_err-i : goal.returns-in_err-i
unfolding then outcome typeset_end set_of
returns-in_err-i c = λ n. let p = missed c.word_ahead.ensures _ c.from_residual.ensures.1 c.in_err-i.ensures.value c.in_err-i.ensures.ok_part in rw p.0 (at-end (set_of n _) _ _ _ star _ p.1)

pub returns-then-punct : goal.returns-then-punct
unfolding typeset_turn pick
returns-then-punct c = λ n. c.name_from.ensures n ∙ at_done (set_of n _) _ _ _ star (c.word_ahead.ensures.some _ c.in_ok-i.ensures.ok_part) name (rw (sym c.punct.ensures ∙ c.if-punct.true))

pub returns : goal.returns
unfolding typeset_turn pick
returns c = λ n. c.name_from-2.ensures n ∙ at-alike (set_of n _) _ _ _ star (c.word_ahead.ensures.some _ c.in_ok-i.ensures.ok_part) name (rw (sym c.punct.ensures ∙ c.if-punct.false))
