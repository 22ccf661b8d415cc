-- The function `cells_end` meets its contract. Assumes nothing.
use Rattle.naming.proofs.RowLaws.{cells-none, cells-few, jump-some, jump-within, cells-jumped}
use native.Mathlib.Omega.{arith}
use Rattle.naming.proofs.rows.cells_end.Goals as goal

pub returns-then-source-at : goal.returns-then-source-at
returns-then-source-at c = cells-none _ _ _ c.if-source-at.true

pub returns-then-characters-source : goal.returns-then-characters-source
returns-then-characters-source c = cells-few _ _ _ c.if-characters-source.true

pub overflow_mul-characters : goal.overflow_mul-characters
overflow_mul-characters c = let a = c.args in omega (arith, jump-within a.source.now a.at a.characters.0 c.if-characters-source.false)

pub overflow_sub-characters : goal.overflow_sub-characters
overflow_sub-characters c = let a = c.args in omega (arith, jump-some a.source.now a.at a.characters.0 c.if-characters-source.false)

pub overflow_add-at : goal.overflow_add-at
overflow_add-at c = let a = c.args in omega (arith, jump-within a.source.now a.at a.characters.0 c.if-characters-source.false)

pub returns : goal.returns
returns c = cells-jumped _ _ _ c.if-characters-source.false c.line_end.ensures
