-- The function `put_ahead` meets its contract, by whether a set is open. Assumes nothing.
use Rattle.reading.proofs.OptionLaws.{no-some}
use Rattle.reading.proofs.ToldRows.{plain_known}
use Rattle.reading.specs.RowWalk.{nothing_put, told_put}
use mathlib.Core.Path.{sym, ◌∙◌}
use Rattle.reading.proofs.lines.put_ahead.Goals as goal

pub returns-then-is_some : goal.returns-then-is_some
returns-then-is_some c = nothing_put

pub returns : goal.returns
returns c = told_put (plain_known _ (no-some _ (sym c.is_some.ensures ∙ c.if-is_some.false))) c.put_told-j.ensures
