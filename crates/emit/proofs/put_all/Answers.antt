-- The function `put_all` meets its contract: no byte has room, all have, or some. Assumes nothing.
use Rattle.emit.proofs.PutLaws.{puts-past}
use Rattle.emit.proofs.put_all.Goals as goal

pub returns-then-buffer-n : goal.returns-then-buffer-n
returns-then-buffer-n c = puts-past _ _ c.args.bytes.now _ c.if-buffer-n.true c.further.ensures
