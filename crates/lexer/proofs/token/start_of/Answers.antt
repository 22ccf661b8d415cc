-- The function `start_of` meets its contract. Assumes nothing.
use lib.ListN.{get_or-eq_default}
use mathlib.Core.Path.{sym}
use Rattle.lexer.proofs.token.start_of.Goals as goal

pub returns : goal.returns
returns c = sym (get_or-eq_default c.args.work.now 0 c.if-i-work.false)
