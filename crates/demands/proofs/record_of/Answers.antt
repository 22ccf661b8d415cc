-- The function `record_of` meets its contract: what read answers and leaves is right. Assumes nothing.
use Rattle.demands.proofs.RightLaws.{rightly-read}
use Rattle.demands.proofs.record_of.Goals as goal

pub returns : goal.returns
returns c = rightly-read _ _ _ _ _ _ c.read.ensures
