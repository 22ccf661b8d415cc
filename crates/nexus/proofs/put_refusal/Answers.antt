-- The function put_refusal meets its contract: three lines, one behind another, for which the buffer has room. Assumes nothing.
use Rattle.lexer.specs.Base.{bytes}
use Rattle.nexus.proofs.RefusalLines.{lines-front}
use Rattle.nexus.proofs.put_refusal.Goals as goal

pub returns : goal.returns
unfolding bytes
returns c =
    lines-front c.args.number c.args.line c.args.column c.ranges.number.fits c.ranges.line.fits c.ranges.column.fits c.requires c.put_number-n.ensures c.put_number-m.ensures c.put_number.ensures
