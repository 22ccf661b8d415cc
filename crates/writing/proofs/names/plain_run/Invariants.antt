-- The function `plain_run` meets its contract. Assumes nothing.
use Rattle.writing.specs.QuotedNames.{Run}
use Rattle.writing.proofs.names.plain_run.Given as goal

abbrev pub invariant-loop-at : goal.invariant-loop-at
invariant-loop-at l = Run l.source l.from l.at
