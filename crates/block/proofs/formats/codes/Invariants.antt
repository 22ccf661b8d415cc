-- The function `codes` meets its contract: a turn stores the code of the next byte. Assumes nothing.
use Rattle.block.proofs.FormatCodes.{Coding}
use Rattle.block.specs.Formats.{meant}
use Rattle.block.proofs.formats.codes.Given as goal

abbrev pub invariant-loop-i : goal.invariant-loop-i
invariant-loop-i l = Coding (meant l.format) l.table l.i
