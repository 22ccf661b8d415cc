-- The function `insert_line` meets its contract. Assumes nothing.
use Rattle.naming.proofs.InsertLaws.{line-there, line-inserted}
use Rattle.naming.proofs.OrderLaws.{parted-few}
use native.Mathlib.Omega.{arith}
use Rattle.naming.proofs.ordered.insert_line.Goals as goal

pub returns-then-line_found : goal.returns-then-line_found
returns-then-line_found c =
    line-there _ _ _ _ c.lines_before-front.result.0 c.line_found.ensures c.if-line_found.true

pub insert_place-requires : goal.insert_place-requires
insert_place-requires c =
    (parted-few _ _ _ _ (omega (arith, c.requires.0)) c.requires.1 _ c.lines_before-front.ensures, c.requires.0)

pub returns : goal.returns
returns c =
    line-inserted _ _ _ _ _ c.line_found.ensures c.requires.1 c.lines_before-front.ensures _ c.insert_place.ensures c.if-line_found.false
