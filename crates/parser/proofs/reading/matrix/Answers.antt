-- The function `matrix` meets its contract: its shape, then all of it. Assumes nothing.
use Rattle.parser.proofs.MatrixMade.{matrix-absent, matrix-unshaped, matrix-shaped-made}
use Rattle.parser.proofs.reading.matrix.Goals as goal

pub returns-in-None : goal.returns-in-None
returns-in-None c = λ e. matrix-absent _ _ c.args.work.now _ _ _ c.args.s _ c.in-None.is

pub returns-in-Ok : goal.returns-in-Ok
returns-in-Ok c =
    matrix-shaped-made _ _ _ _ _ _ c.args.s _ _ c.in-Some.is _ c.matrix_shape.ensures _ _ c.in-Ok.is _ c.matrix_stored.ensures

pub returns-in-Err : goal.returns-in-Err
returns-in-Err c =
    λ e.
    matrix-unshaped _ _ c.args.work.now _ _ _ c.args.s _ _ c.in-Some.is _ c.matrix_shape.ensures _ c.in-Err.is
