-- The function `put` meets its contract: a byte that has room, and one that has none. Assumes nothing.
use Rattle.emit.proofs.PutLaws.{byte_past, byte-written}
use Rattle.emit.proofs.put.Goals as goal

pub returns-then-n-buffer : goal.returns-then-n-buffer
returns-then-n-buffer c = byte-written _ _ _

pub returns : goal.returns
returns c = rw c.saturating_add.ensures (byte_past _ _ _ c.if-n-buffer.false c.ranges.n.fits)
