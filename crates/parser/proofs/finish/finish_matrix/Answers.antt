-- The function `finish_matrix` meets its contract. Assumes nothing.
use Rattle.commands.specs.Stepping.{answered, short}
use Rattle.lexer.proofs.Basics.{not-both}
use Rattle.parser.proofs.FinishLaws.{standard-final, dna-final, ordered-final}
use Rattle.parser.specs.ParsedHeld.{parsed_held}
use mathlib.Core.Path.{refl, sym, ◌∙◌}
use Rattle.parser.proofs.finish.finish_matrix.Goals as goal

pub returns-then-not-map_fits-clause-answer : goal.returns-then-not-map_fits-clause-answer
unfolding parsed_held
returns-then-not-map_fits-clause-answer c = λ text. short refl (not-both (sym c.map_fits.ensures ∙ c.if-not-map_fits.true))

pub returns-then-not-is_dna-clause-answer : goal.returns-then-not-is_dna-clause-answer
returns-then-not-is_dna-clause-answer c = λ text. answered (standard-final text _ _ _ _ _ c.is_dna.ensures c.if-not-is_dna.true)

pub returns-then-any_ordered-clause-answer : goal.returns-then-any_ordered-clause-answer
returns-then-any_ordered-clause-answer c =
    λ text. answered (ordered-final text _ _ _ _ _ c.is_dna.ensures _ c.any_ordered.ensures c.if-not-is_dna.false c.if-any_ordered.true)

pub returns-clause-answer : goal.returns-clause-answer
returns-clause-answer c = λ text. answered (dna-final text _ _ _ _ _ c.is_dna.ensures _ c.any_ordered.ensures c.if-any_ordered.false)
