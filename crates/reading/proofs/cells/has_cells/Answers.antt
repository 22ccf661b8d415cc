-- The function `has_cells` meets its contract: a word has, and the mark `+`. Assumes nothing.
use Rattle.lexer.proofs.KindTags.{other-kind}
use Rattle.lexer.specs.Words.{is_word}
use Rattle.reading.proofs.WordCells.{has_other, has_word}
use mathlib.Core.Path.{sym, ap, ◌∙◌}
use Rattle.reading.proofs.cells.has_cells.Goals as goal

pub returns-in-Word : goal.returns-in-Word
returns-in-Word c = has_word _ _ _ _ c.start_of.ensures (sym c.in-Word.is ∙ c.kind_at.ensures)

pub returns-in_default : goal.returns-in_default
returns-in_default c =
    c.punct.ensures ∙ has_other _ _ _ _ c.start_of.ensures (sym (ap is_word c.kind_at.ensures) ∙ other-kind _ c.in_default.not-Word)
