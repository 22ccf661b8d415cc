-- The function `symbol_step` meets its contract: what stands at a byte, by the byte's symbol. Assumes nothing.
use Rattle.lexer.proofs.StepSymbols.{step-word, step-single, step-double, step-open, step-mark, step-blank, skipped-mapped, taken-mapped}
use Rattle.lexer.specs.Scanning.{skipped, taken}
use mathlib.Core.Path.{sym, ap, ◌∙◌}
use Rattle.lexer.proofs.lexing.symbol_step.Goals as goal

pub returns-in-Other : goal.returns-in-Other
returns-in-Other c = taken-mapped _ _ _ (λ j s e. e) c.map.ensures.cases ∙ ap taken c.word_end.ensures ∙ sym (step-word _ _ c.requires _ c.symbol_at.ensures c.in-Other.is)

pub returns-in-Newline : goal.returns-in-Newline
returns-in-Newline c = sym (step-mark _ _ c.requires _ c.symbol_at.ensures c.in-Newline.is)

pub returns-in-Blank : goal.returns-in-Blank
returns-in-Blank c = sym (step-blank _ _ c.requires _ c.symbol_at.ensures c.in-Blank.is)

pub returns-in-Single : goal.returns-in-Single
returns-in-Single c = taken-mapped _ _ _ (λ j s e. e) c.map-in-Single.ensures.cases ∙ ap taken c.quoted_end.ensures ∙ sym (step-single _ _ c.requires _ c.symbol_at.ensures c.in-Single.is)

pub returns-in-Double : goal.returns-in-Double
returns-in-Double c = taken-mapped _ _ _ (λ j s e. e) c.map-in-Double.ensures.cases ∙ ap taken c.string_end.ensures ∙ sym (step-double _ _ c.requires _ c.symbol_at.ensures c.in-Double.is)

pub returns-in-Open : goal.returns-in-Open
returns-in-Open c = skipped-mapped _ _ _ (λ j s e. e) c.map-in-Open.ensures.cases ∙ ap skipped c.comment_end.ensures ∙ sym (step-open _ _ c.requires _ c.symbol_at.ensures c.in-Open.is)
