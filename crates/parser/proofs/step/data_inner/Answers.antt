-- The function `data_inner` meets its contract: nothing behind the matrix, MATRIX, and any other command. Assumes nothing.
use Prim.Native.Nat.{◌<◌}
use Rattle.lexer.specs.Base.{bytes}
use Rattle.parser.proofs.DataInner.{behind-made, matrix-made, other-made, told-data, told-first}
use native.Mathlib.Omega.{arith}
use Rattle.parser.proofs.step.data_inner.Goals as goal

pub returns-then-matrix_given : goal.returns-then-matrix_given
returns-then-matrix_given c =
    λ e.
    behind-made c.args.text.now c.args.work.now _ _ _ c.args.s _ _ c.matrix_given.ensures.known c.if-matrix_given.true

pub returns-then-is : goal.returns-then-is
unfolding bytes
returns-then-is c =
    λ e.
    matrix-made c.args.text.now c.args.work.now _ _ _ c.args.s _ c.requires.1 c.requires.2 e _ c.is.ensures c.if-is.true _ c.matrix_given.ensures.known c.if-matrix_given.false _ _
    c.matrix.ensures

pub returns : goal.returns
unfolding bytes
returns c =
    λ e.
    let told = c.judge_taxa-judgement.ensures in
    let inside : c.args.head < c.args.count = omega (arith, c.requires.1, c.requires.2) in
    let text = c.args.text.now in
    let before = c.args.work.now in
    told-data text before _ _ _ _ c.args.s _ _ told _
    (other-made text _ _ _ _ c.args.s _ c.requires.1 c.requires.2 e _ (told-first text before _ _ _ _ c.args.s c.args.b _ told inside _ c.is.ensures) c.if-is.false _
    c.data_step.ensures.step c.data_step.ensures.placed)
