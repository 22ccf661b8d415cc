-- The function `name_from` meets its contract. Assumes nothing.
use Rattle.assumptions.proofs.NextWordLaws.{missed}
use Rattle.assumptions.proofs.TypesetWalks.{at-end, at_done, at-refused, name-good, name-none}
use Rattle.assumptions.specs.TypesetWalk.{set_of}
use Rattle.block.specs.Typeset.{name, named, typeset_turn, typeset_end}
use Rattle.lexer.specs.Stored.{word_of}
use mathlib.Core.Path.{sym, ◌∙◌}
use Rattle.block.specs.Outcome.{outcome, then}
use Rattle.assumptions.proofs.heads.name_from.Goals as goal

pub returns-in_err-i : goal.returns-in_err-i
unfolding then outcome typeset_end set_of
returns-in_err-i c = λ n. let p = missed c.word_ahead.ensures _ c.from_residual.ensures.1 c.in_err-i.ensures.value c.in_err-i.ensures.ok_part in rw p.0 (at-end (set_of n _) _ _ _ name _ p.1)

pub returns-then-named : goal.returns-then-named
unfolding then outcome typeset_turn
returns-then-named c = λ n. at_done (set_of n _) _ _ _ name (c.word_ahead.ensures.some _ c.in_ok-i.ensures.ok_part) named (name-good _ (sym c.named.ensures ∙ c.if-named.true))

pub returns : goal.returns
unfolding then outcome typeset_turn word_of
returns c = λ n. at-refused (set_of n _) _ _ _ name (c.word_ahead.ensures.some _ c.in_ok-i.ensures.ok_part) _ _ (name-none _ (sym c.named.ensures ∙ c.if-named.false))
