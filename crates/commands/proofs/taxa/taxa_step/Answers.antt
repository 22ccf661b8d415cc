-- The function `taxa_step` meets its contract. Assumes nothing.
use Rattle.commands.proofs.GivenLaws.{names_if_some}
use Rattle.commands.proofs.TaxaLaws.{step-named, step-dimensions, step-labels, step_other}
use Rattle.commands.specs.StateHeld.{stepped}
use Rattle.lexer.proofs.Basics.{and_right}
use Rattle.lexer.specs.Base.{bytes}
use Rattle.lexer.specs.Stored.{word_of}
use lib.Dec.{eqb}
use mathlib.Core.Bool.{not}
use mathlib.Core.Path.{sym, ◌∙◌}
use Rattle.commands.proofs.taxa.taxa_step.Goals as goal

pub returns-then-is_some-clause-step : goal.returns-then-is_some-clause-step
unfolding stepped word_of
returns-then-is_some-clause-step c =
    λ m. step-named _ _ _ _ _ _ _ (c.is_some.ensures ∙ names_if_some _ _ _) c.if-is_some.true

pub returns-then-count-is-clause-step : goal.returns-then-count-is-clause-step
unfolding bytes
returns-then-count-is-clause-step c =
    λ m. step-dimensions _ _ _ _ _ _ _ _ _ (c.is_some.ensures ∙ names_if_some _ _ _) c.if-is_some.false c.is.ensures c.if-count-is.true (c.taxa_dimensions.ensures.step m)

pub returns-then-count-is-clause-placed : goal.returns-then-count-is-clause-placed
unfolding bytes
returns-then-count-is-clause-placed c =
    λ size k h. c.taxa_dimensions.ensures.placed size h

pub returns-then-count-is-2-clause-step : goal.returns-then-count-is-2-clause-step
unfolding bytes
returns-then-count-is-2-clause-step c =
    λ m. step-labels _ _ _ _ _ _ _ _ _ (c.is_some.ensures ∙ names_if_some _ _ _) c.if-is_some.false c.is-2.ensures c.if-count-is-2.true (c.taxa_labels.ensures.step m _ _ (c.requires.1.right (sym c.is-2.ensures ∙ and_right (not (eqb c.args.count 0)) _ c.if-count-is-2.true)))

pub returns-then-count-is-2-clause-placed : goal.returns-then-count-is-2-clause-placed
unfolding bytes
returns-then-count-is-2-clause-placed c =
    c.taxa_labels.ensures.placed _ _

pub returns-clause-step : goal.returns-clause-step
unfolding stepped word_of bytes
returns-clause-step c =
    λ m. step_other _ _ _ _ _ _ _ _ _ (c.is_some.ensures ∙ names_if_some _ _ _) c.if-is_some.false c.is.ensures c.if-count-is.false c.is-2.ensures c.if-count-is-2.false
