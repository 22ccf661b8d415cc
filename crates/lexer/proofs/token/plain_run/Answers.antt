-- The function `plain_run` meets its contract, by the mode of the cursor. Assumes nothing.
use Rattle.lexer.proofs.PlainRuns.{run-word-end, run-stays}
use Rattle.lexer.proofs.token.plain_run.Goals as goal

pub returns-in-Word : goal.returns-in-Word
returns-in-Word c = run-word-end _ _ _ c.in-Word.is c.plain_end.ensures

pub returns-in_default : goal.returns-in_default
returns-in_default c = run-stays _ _ c.in_default.not-Word
