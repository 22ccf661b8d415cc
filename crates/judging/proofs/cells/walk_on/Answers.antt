-- The function `walk_on` meets its contract: a cell of one byte and a blank are passed, and often more such cells; or one byte is. Assumes nothing.
use Rattle.judging.proofs.CellsJudged.{moves-byte, moves-then, moves-whole}
use Rattle.judging.specs.declared.cells.Mode.{Mode}
use mathlib.Core.Path.{◌≡◌, refl}
use native.Mathlib.Omega.{arith}
use Rattle.judging.proofs.cells.walk_on.Goals.{in-Fresh, in_default}
use Rattle.judging.proofs.cells.walk_on.Goals as goal

pub returns-then-whole_at : goal.returns-then-whole_at
returns-then-whole_at c =
    let fresh : c.args.walk.mode ≡ Mode.Fresh = elim c.match-matches.branch [ in-Fresh w ↦ w.in-Fresh.is | in_default w ↦ absurd (cc) ] in
    let whole = moves-whole _ _ _ c.requires.inside c.requires.line fresh (c.whole_at.ensures c.if-whole_at.true) in
    (omega (arith, c.cells_run.ensures.0), moves-then _ _ whole c.cells_run.ensures.1)

pub returns : goal.returns
returns c =
    (omega arith, moves-byte _ _ _ _ c.requires.inside c.requires.line refl c.cell_step.ensures c.count_blank.ensures refl)
