-- The function count_eight meets its contract: the eight tests, one for each byte, add up to the count. Assumes nothing.
use Rattle.lexer.proofs.CommentBlocks.{count-eight, count_most}
use native.Mathlib.Omega.{arith}
use Rattle.lexer.proofs.scanning.count_eight.Goals as goal

pub returns : goal.returns
returns c =
    let sum = count-eight _ _ _ _ _ _ _ _ _ _ _ c.requires c.from.ensures c.from-2.ensures c.from-3.ensures c.from-4.ensures c.from-5.ensures c.from-6.ensures c.from-7.ensures c.from-8.ensures in
    (sum, omega (arith, sum, count_most c.args.text.now c.args.b 8 c.args.i))
