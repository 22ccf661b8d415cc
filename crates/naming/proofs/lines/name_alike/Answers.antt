use Rattle.naming.proofs.EscapeLike.{naming-unlike, naming-turn, naming-end}
use Rattle.naming.proofs.LineLaws.{no_place}
use Rattle.naming.proofs.lines.name_alike.Goals as goal

pub returns-in_default : goal.returns-in_default
returns-in_default c =
    naming-unlike _ _ _ _ _ c.loop-b.invariant c.loop-b-test.true c.escape_like.ensures (no_place _ c.in_default.not-Some)

pub loop-b-preserved : goal.loop-b-preserved
loop-b-preserved c =
    naming-turn _ _ _ _ _ c.loop-b.invariant c.loop-b-test.true c.escape_like.ensures _ c.in-Some.is

pub returns : goal.returns
returns c = naming-end _ _ _ _ _ c.loop-b.invariant c.loop-b-test.false c.line_byte.ensures
