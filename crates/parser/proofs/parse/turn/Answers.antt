-- The function `turn` meets its contract: the next command, and its step. Assumes nothing.
use Rattle.std.proofs.lemmas.Result.{err_from_is_err_and}
use Rattle.parser.proofs.TurnLaws.{turn_on, turn-refused}
use Rattle.parser.proofs.parse.turn.Goals as goal

pub returns : goal.returns
returns c =
    turn_on _ _ _ _ _ _ c.next-cut.ensures.result_value c.next-cut.ensures.within _ _ _ c.requires.1 c.cut_end-end.ensures c.in_ok-t.ensures

pub returns-in_err-t : goal.returns-in_err-t
returns-in_err-t c =
    let p = err_from_is_err_and c.from_residual.result c.from_residual.ensures.1 in
    rw (p.1, p.2) (turn-refused _ _ _ _ _ _ c.next-cut.ensures.result_value c.next-cut.ensures.within _ _ _ c.in_err-t.ensures)
