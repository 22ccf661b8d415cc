use Rattle.lexer.proofs.CommentBlocks.{passing-start, passing-block, passing-stops, passing-over}
use mathlib.Core.Path.{◌∙◌}
use native.Mathlib.Omega.{arith}
use Rattle.lexer.proofs.scanning.comment_blocks.Goals as goal

pub loop-i-init : goal.loop-i-init
loop-i-init c = passing-start _ _ _ c.requires.0 c.requires.1

pub returns-then-deep-closing : goal.returns-then-deep-closing
returns-then-deep-closing c = passing-stops _ _ _ _ _ _ c.loop-i.invariant (omega arith) (c.from-closing.ensures ∙ c.count_eight.ensures.0) c.if-deep-closing.true

pub loop-i-preserved : goal.loop-i-preserved
loop-i-preserved c =
    passing-block _ _ _ _ _ _ c.loop-i.invariant (omega arith) (c.from-closing.ensures ∙ c.count_eight.ensures.0) _ (c.from.ensures ∙ c.count_eight-in-loop-i.ensures.0) (omega (arith, c.from.ensures, c.count_eight-in-loop-i.ensures.1)) c.if-deep-closing.false

pub returns : goal.returns
returns c = passing-over _ _ _ _ _ c.loop-i.invariant (omega arith)
