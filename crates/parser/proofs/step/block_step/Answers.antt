-- The function `block_step` meets its contract: END alone, END with words behind it, and any other command. Assumes nothing.
use Rattle.lexer.specs.Base.{bytes}
use Rattle.parser.proofs.BlockMade.{ended-made, inner_made, more-made}
use Rattle.parser.proofs.step.block_step.Goals as goal

pub returns-in-Some : goal.returns-in-Some
unfolding bytes
returns-in-Some c =
    more-made c.args.text.now c.args.work.now _ _ _ c.args.s c.requires.1 c.requires.2 _ _ c.is.ensures c.is-2.ensures c.if-is.true _ _
    (c.word_ahead.ensures.some _ c.in-Some.is).here

pub returns-then-is : goal.returns-then-is
unfolding bytes
returns-then-is c =
    ended-made c.args.text.now c.args.work.now _ _ _ c.args.s c.requires.1 c.requires.2 _ _ c.is.ensures c.is-2.ensures c.if-is.true
    (c.word_ahead.ensures.none c.in_default.is) _ c.end_block.ensures.step c.end_block.ensures.placed

pub returns : goal.returns
unfolding bytes
returns c =
    inner_made c.args.text.now c.args.work.now _ _ _ c.args.s c.requires.1 c.requires.2 _ _ c.is.ensures c.is-2.ensures c.if-is.false _ _
    c.inner_step.ensures
