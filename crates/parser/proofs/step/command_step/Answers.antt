-- The function `command_step` meets its contract: by whether a block is open. Assumes nothing.
use Rattle.parser.proofs.BlockMade.{open_made, top-made}
use Rattle.parser.proofs.step.command_step.Goals as goal

pub returns-then-is_outside : goal.returns-then-is_outside
returns-then-is_outside c =
    top-made c.args.text.now c.args.work.now _ _ _ c.args.s _ c.is_outside.ensures c.if-is_outside.true _ c.begin_words.ensures.step c.begin_words.ensures.placed

pub returns : goal.returns
returns c =
    open_made c.args.text.now c.args.work.now _ _ _ c.args.s _ c.is_outside.ensures c.if-is_outside.false _ _ c.block_step.ensures
