use Rattle.std.proofs.lemmas.Result.{err_from_is_err_and}
use Rattle.parser.proofs.CommandsWalk.{walking_start, walking-refused, walking-end}
use Rattle.parser.proofs.parse.read_commands.Goals as goal

pub loop-i-init : goal.loop-i-init
loop-i-init c = walking_start _ _ _ _ _ c.at_start-s.ensures.step c.at_start-s.ensures.placed

pub returns-in_err-s : goal.returns-in_err-s
returns-in_err-s c =
    let p = err_from_is_err_and c.from_residual.result c.from_residual.ensures.1 in
    rw (p.1, p.2) (walking-refused _ _ _ _ c.requires.0 _ _ _ c.loop-i.invariant _ _ _ c.in_err-s.ensures)

pub returns : goal.returns
returns c =
    walking-end _ _ _ _ c.requires.0 _ _ _ c.loop-i.invariant _ c.loop-i-test.false c.finish.ensures.answer c.finish.ensures.fits
