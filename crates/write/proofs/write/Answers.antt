-- The function `write` meets its contract: the bytes are a record, and its form is delivered; or they are none. Assumes nothing.
use Rattle.lexer.specs.Places.{nowhere}
use Rattle.write.proofs.FormDelivered.{nothing_written, record-written}
use Rattle.write.proofs.write.Goals as goal

pub returns : goal.returns
returns c = record-written _ _ _ c.judge.ensures _ c.in-Some.is _ _ c.deliver.ensures

pub returns-in_default : goal.returns-in_default
unfolding nowhere
returns-in_default c = nothing_written _ _ _ c.judge.ensures c.in_default.is
