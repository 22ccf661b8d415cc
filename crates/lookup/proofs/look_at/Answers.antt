-- The function `look_at` meets its contract: a record's rows stand where its shape says. Assumes nothing.
use Rattle.lookup.proofs.LookLaws.{record-sought, sought-looked, wrong-looked}
use Rattle.lookup.proofs.look_at.Goals as goal

pub returns : goal.returns
returns c = rw c.ok_or.ensures.value (sought-looked _ (record-sought c.judge.ensures _ c.in-Some.is c.find_cells.ensures))

pub returns-in_default : goal.returns-in_default
returns-in_default c = wrong-looked c.judge.ensures c.in_default.is
