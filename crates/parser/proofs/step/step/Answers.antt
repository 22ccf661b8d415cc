-- The function `step` meets its contract: by what was found. Assumes nothing.
use Rattle.parser.proofs.CutMade.{apart-made, command-made, empty-made, none_made, unended-made}
use Rattle.parser.proofs.step.step.Goals as goal

pub returns-then-end-head : goal.returns-then-end-head
returns-then-end-head c = apart-made _ _ _ _ _ _ _ c.in-Command.is c.if-end-head.true

pub returns-in-None : goal.returns-in-None
returns-in-None c = none_made _ _ _ _ _ c.in-None.is

pub returns-in-Empty : goal.returns-in-Empty
returns-in-Empty c = empty-made _ _ _ _ _ _ c.in-Empty.is

pub returns-in-Unended : goal.returns-in-Unended
returns-in-Unended c = unended-made _ _ _ _ _ _ c.in-Unended.is

pub returns-else-end-head : goal.returns-else-end-head
returns-else-end-head c =
    command-made c.args.text.now c.args.work.now _ c.args.s _ _ _ c.in-Command.is c.requires _ _ c.command_step.ensures
