use Rattle.matrix.proofs.LineLaws.{counting-turn, counting-end}
use native.Mathlib.Omega.{arith}
use Rattle.matrix.proofs.interleaved.few_lines.Goals as goal

pub loop-j-preserved : goal.loop-j-preserved
loop-j-preserved c =
    counting-turn c.loop-j.invariant c.loop-j-test.true (omega (arith, c.if-left-eq0.false)) c.line_end.ensures c.next_line-j-in-loop-j.ensures

pub returns : goal.returns
returns c = counting-end c.loop-j.invariant c.loop-j-test.false
