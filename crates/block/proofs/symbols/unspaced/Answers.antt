use Rattle.block.proofs.SymbolText.{unspacing-blank, unspacing-symbol, unspacing-over, unspacing-end}
use Rattle.lexer.proofs.NextBytes.{yielded}
use native.Mathlib.Omega.{arith}
use Rattle.block.proofs.symbols.unspaced.Goals as goal

pub loop-b-smaller-then-blank_byte : goal.loop-b-smaller-then-blank_byte
loop-b-smaller-then-blank_byte c = let y = (yielded _ _ _ c.next_byte.ensures).byte _ _ c.in-Some.is in omega arith

pub loop-b-preserved-then-blank_byte : goal.loop-b-preserved-then-blank_byte
loop-b-preserved-then-blank_byte c = unspacing-blank _ _ _ _ _ c.loop-b.invariant _ _ ((yielded _ _ _ c.next_byte.ensures).byte _ _ c.in-Some.is) _ c.blank_byte.ensures c.if-blank_byte.true

pub returns-then-count-ge-MOST : goal.returns-then-count-ge-MOST
returns-then-count-ge-MOST c = unspacing-over _ _ _ _ _ c.loop-b.invariant _ _ ((yielded _ _ _ c.next_byte.ensures).byte _ _ c.in-Some.is) _ c.blank_byte.ensures c.if-blank_byte.false c.if-count-ge-MOST.true

pub loop-b-smaller : goal.loop-b-smaller
loop-b-smaller c = let y = (yielded _ _ _ c.next_byte.ensures).byte _ _ c.in-Some.is in omega arith

pub loop-b-preserved : goal.loop-b-preserved
loop-b-preserved c = unspacing-symbol _ _ _ _ _ c.loop-b.invariant _ _ ((yielded _ _ _ c.next_byte.ensures).byte _ _ c.in-Some.is) _ c.blank_byte.ensures c.if-blank_byte.false c.if-count-ge-MOST.false

pub returns : goal.returns
returns c = unspacing-end _ _ _ _ _ c.loop-b.invariant ((yielded _ _ _ c.next_byte.ensures).end c.in_default.is)
