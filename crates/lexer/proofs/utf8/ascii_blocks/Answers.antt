use Rattle.lexer.proofs.ByteBlocks.{passing-start, passing-sixteen, sixteen-stops, passing-over}
use Rattle.lexer.specs.ByteBlocks.{is_ascii}
use native.Mathlib.Omega.{arith}
use Rattle.lexer.proofs.utf8.ascii_blocks.Goals as goal

pub loop-i-init : goal.loop-i-init
loop-i-init c = passing-start is_ascii 16 (omega arith) _ _ c.requires

pub returns-then-not-ascii : goal.returns-then-not-ascii
returns-then-not-ascii c = sixteen-stops is_ascii _ _ _ c.loop-i.invariant (omega arith) _ _ c.ascii_eight.ensures c.ascii_eight-in-loop-i.ensures c.if-not-ascii.true

pub loop-i-preserved : goal.loop-i-preserved
loop-i-preserved c = passing-sixteen is_ascii _ _ _ c.loop-i.invariant (omega arith) _ _ c.ascii_eight.ensures c.ascii_eight-in-loop-i.ensures c.if-not-ascii.false

pub returns : goal.returns
returns c = passing-over is_ascii 16 (omega arith) _ _ _ c.loop-i.invariant (omega arith)
