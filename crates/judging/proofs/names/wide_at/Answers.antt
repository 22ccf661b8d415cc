-- The function `wide_at` meets its contract. Assumes nothing.
use Rattle.judging.proofs.WideBlanks.{wide_below}
use mathlib.Core.Path.{sym}
use Rattle.judging.proofs.names.wide_at.Goals as goal

pub returns-then-b-lt194 : goal.returns-then-b-lt194
returns-then-b-lt194 c = sym (wide_below _ _ c.if-b-lt194.true)
