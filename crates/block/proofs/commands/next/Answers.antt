-- The function `next` meets its contract: newlines are skipped, and the command goes up to its `;`. Assumes nothing.
use Rattle.block.proofs.CutLaws.{cut-none, head-since, cut-empty, cut-unended, cut-command, end-behind}
use Rattle.block.specs.Commands.{semicolon}
use Rattle.block.specs.CommandsCut.{cut_of}
use mathlib.Core.Path.{sym, ◌∙◌}
use Rattle.block.proofs.commands.next.Goals as goal

pub returns-then-count-head-clause-result_value : goal.returns-then-count-head-clause-result_value
unfolding cut_of
returns-then-count-head-clause-result_value c = cut-none _ _ _ _ _ c.skip_newlines-head.ensures c.if-count-head.true

pub returns-then-punct-clause-result_value : goal.returns-then-punct-clause-result_value
unfolding semicolon
returns-then-punct-clause-result_value c =
    cut-empty _ _ _ _ _ c.skip_newlines-head.ensures c.if-count-head.false (sym c.punct.ensures ∙ c.if-punct.true)

pub returns-then-punct-clause-within : goal.returns-then-punct-clause-within
returns-then-punct-clause-within c = (head-since _ _ _ _ _ c.skip_newlines-head.ensures c.if-count-head.false, c.if-count-head.false)

pub returns-then-count-end-clause-result_value : goal.returns-then-count-end-clause-result_value
unfolding semicolon
returns-then-count-end-clause-result_value c =
    cut-unended _ _ _ _ _ c.skip_newlines-head.ensures c.if-count-head.false (sym c.punct.ensures ∙ c.if-punct.false) _ c.semicolon_from-end.ensures
    c.if-count-end.true

pub returns-then-count-end-clause-within : goal.returns-then-count-end-clause-within
returns-then-count-end-clause-within c = (head-since _ _ _ _ _ c.skip_newlines-head.ensures c.if-count-head.false, c.if-count-head.false)

pub returns-clause-result_value : goal.returns-clause-result_value
unfolding semicolon
returns-clause-result_value c =
    cut-command _ _ _ _ _ c.skip_newlines-head.ensures c.if-count-head.false (sym c.punct.ensures ∙ c.if-punct.false) _ c.semicolon_from-end.ensures
    c.if-count-end.false

pub returns-clause-within : goal.returns-clause-within
unfolding semicolon
returns-clause-within c =
    let head = c.skip_newlines-head.ensures in
    let below = c.if-count-head.false in
    (head-since _ _ _ _ _ head below, end-behind _ _ _ _ _ head below (sym c.punct.ensures ∙ c.if-punct.false) _ c.semicolon_from-end.ensures, c.if-count-end.false)
