-- The function `word_stop` meets its contract: the plain bytes end, and then the byte behind them says. Assumes nothing.
use Rattle.lexer.proofs.WordsTold.{stop-here, stop-other, stop-past}
use mathlib.Core.Path.{sym, ◌∙◌}
use Rattle.lexer.proofs.scanning.word_stop.Goals as goal
use Rattle.lexer.proofs.scanning.word_stop.Goals.{else-end-text-via-then-end-text+else-ends_word, else-end-text-via-else-end-text}

pub returns-then-ends_word : goal.returns-then-ends_word
returns-then-ends_word c =
    stop-here _ _ _ c.plain_end-end.ensures c.if-end-text.true (sym c.ends_word.ensures ∙ c.if-ends_word.true)

pub returns : goal.returns
returns c =
    elim c.else-end-text.branch [
      | else-end-text-via-then-end-text+else-ends_word w ↦ stop-other _ _ _ c.plain_end-end.ensures (sym w.ends_word.ensures ∙ w.if-ends_word.false)
      | else-end-text-via-else-end-text w ↦ stop-past _ _ _ c.plain_end-end.ensures w.if-end-text.false
    ]
