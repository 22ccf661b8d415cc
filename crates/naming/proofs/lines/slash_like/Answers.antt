-- The function `slash_like` meets its contract, test by test. Assumes nothing.
use Rattle.naming.proofs.EscapeLike.{slash-other, slash-before, slash-second, slash-both, slash-within}
use native.Mathlib.Omega.{arith}
use Rattle.naming.proofs.lines.slash_like.Goals as goal

pub returns-then-line_byte-ne92 : goal.returns-then-line_byte-ne92
returns-then-line_byte-ne92 c = slash-other _ _ c.line_byte.ensures _ c.if-line_byte-ne92.true

pub overflow_add-i : goal.overflow_add-i
overflow_add-i c =
    let a = c.args in
    let h = slash-before a.source.now a.i c.line_byte.ensures a.y c.if-line_byte-ne92.false in
    omega arith

pub returns-then-lower-lower_byte : goal.returns-then-lower-lower_byte
returns-then-lower-lower_byte c =
    slash-second _ _ c.line_byte.ensures _ c.if-line_byte-ne92.false c.lower.ensures c.lower_byte.ensures c.if-lower-lower_byte.true

pub returns : goal.returns
returns c =
    let given = c.requires in
    slash-both _ _ c.line_byte.ensures _ c.if-line_byte-ne92.false c.lower.ensures c.lower_byte.ensures given c.if-lower-lower_byte.false

pub overflow_add-result : goal.overflow_add-result
overflow_add-result c =
    let a = c.args in
    let given = c.requires in
    let h = slash-within a.source.now a.i c.line_byte.ensures a.y c.if-line_byte-ne92.false c.lower.ensures c.lower_byte.ensures given c.if-lower-lower_byte.false in
    omega arith
