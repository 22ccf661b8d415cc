-- The function `sign_table` meets its contract. A turn stores the sign of the next byte. Assumes nothing.
use Rattle.lexer.proofs.TableLaws.{Filled}
use Rattle.writing.specs.Signs.{sign_by, symbols_at}
use lib.ListN.{length}
use mathlib.Core.Path.{◌≡◌}
use Rattle.writing.proofs.signs.sign_table.Given as goal

abbrev pub invariant-loop-i : goal.invariant-loop-i
invariant-loop-i l = (length l.table ≡ 256) × Filled (sign_by l.marks.missing l.marks.gap (symbols_at l.source l.fn.shape)) 0 l.table l.i
