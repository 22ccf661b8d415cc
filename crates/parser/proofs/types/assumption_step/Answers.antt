-- The function `assumption_step` meets its contract: one test after the other. Assumes nothing.
use Rattle.lexer.specs.Base.{bytes}
use Rattle.parser.proofs.AssumptionLaws.{options-made, typeset-over, refused-made}
use Rattle.parser.proofs.types.assumption_step.Goals as goal

pub returns-then-is-is_none : goal.returns-then-is-is_none
unfolding bytes
returns-then-is-is_none c =
    λ e.
    options-made _ _ _ _ _ _ _ _ _ c.requires.1 c.requires.2 e _ _ c.is.ensures c.is_none.ensures c.if-is-is_none.true
    _ c.options-answer.ensures _ c.after_options.ensures.step c.after_options.ensures.placed

pub returns-then-is-typed : goal.returns-then-is-typed
unfolding bytes
returns-then-is-typed c =
    λ e.
    typeset-over _ _ _ _ _ _ _ _ _ c.requires.1 c.requires.2 e _ _ c.is.ensures c.is_none.ensures c.if-is-is_none.false _ c.is-2.ensures c.if-is-typed.true _ _
    c.typeset_step.ensures

pub returns : goal.returns
unfolding bytes
returns c =
    λ e.
    refused-made _ _ _ _ _ _ _ _ _ c.requires.1 c.requires.2 e _ _ c.is.ensures c.is_none.ensures c.if-is-is_none.false _ c.is-2.ensures c.if-is-typed.false
