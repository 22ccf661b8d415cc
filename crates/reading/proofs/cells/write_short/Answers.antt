use Rattle.reading.proofs.RunPieces.{wrote-start, wrote-turn}
use Rattle.reading.proofs.ShortLaws.{byte-given}
use mathlib.Core.Path.{sym, ◌∙◌}
use native.Mathlib.Omega.{arith}
use Rattle.reading.proofs.cells.write_short.Goals as goal

pub loop-i-init : goal.loop-i-init
loop-i-init c = wrote-start _ _ _ _ _ _ c.requires.0 c.requires.2

pub loop-i-preserved : goal.loop-i-preserved
loop-i-preserved c =
    let given = byte-given _ _ (sym c.in-Some.is ∙ rw c.entry_of.ensures at c.cell_byte.ensures) in
    wrote-turn _ _ _ _ _ _ c.loop-i.invariant _ given.0 c.loop-i-test.true (omega arith) given.1
