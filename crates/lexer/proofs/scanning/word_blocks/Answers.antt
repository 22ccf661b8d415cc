use Rattle.lexer.proofs.ByteBlocks.{passing-start, passing-block, passing-stops, passing-over}
use Rattle.lexer.specs.ByteBlocks.{is_plain}
use mathlib.Core.Path.{sym, ◌∙◌}
use native.Mathlib.Omega.{arith}
use Rattle.lexer.proofs.scanning.word_blocks.Goals as goal

pub loop-i-init : goal.loop-i-init
loop-i-init c = passing-start is_plain 8 (omega arith) _ _ c.requires

pub returns-then-not-word_eight : goal.returns-then-not-word_eight
returns-then-not-word_eight c = passing-stops is_plain 8 (omega arith) _ _ _ c.loop-i.invariant (omega arith) (sym c.word_eight.ensures ∙ c.if-not-word_eight.true)

pub loop-i-preserved : goal.loop-i-preserved
loop-i-preserved c = passing-block is_plain 8 (omega arith) _ _ _ c.loop-i.invariant (omega arith) (sym c.word_eight.ensures ∙ c.if-not-word_eight.false)

pub returns : goal.returns
returns c = passing-over is_plain 8 (omega arith) _ _ _ c.loop-i.invariant (omega arith)
