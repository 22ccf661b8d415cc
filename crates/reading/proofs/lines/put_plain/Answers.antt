-- The function `put_plain` meets its contract: a set opens, or a word is put. Assumes nothing.
use Rattle.block.specs.declared.kinds.Bracket.{Bracket}
use Rattle.reading.proofs.RowSteps.{opening, plain_word, taken-brace, taken-parenthesis}
use mathlib.Core.Path.{sym, ◌∙◌}
use Rattle.reading.proofs.lines.put_plain.Goals as goal

pub returns-then-punct : goal.returns-then-punct
returns-then-punct c = λ none set. opening _ c.requires none Bracket.Brace (λ f cells. taken-brace f cells _ (sym c.punct.ensures ∙ c.if-punct.true))

pub returns-then-punct-2 : goal.returns-then-punct-2
returns-then-punct-2 c =
    λ none set.
    opening _ c.requires none Bracket.Parenthesis
    (λ f cells. taken-parenthesis f cells _ (sym c.punct.ensures ∙ c.if-punct.false) (sym c.punct-2.ensures ∙ c.if-punct-2.true))

pub returns : goal.returns
returns c =
    λ none set.
    plain_word _ c.requires none (sym c.punct.ensures ∙ c.if-punct.false) (sym c.punct-2.ensures ∙ c.if-punct-2.false) c.put_word-row.ensures
