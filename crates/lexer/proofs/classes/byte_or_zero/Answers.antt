-- The function `byte_or_zero` meets its contract. Assumes nothing.
use lib.ListN.{get_or-eq_default}
use mathlib.Core.Path.{refl, sym}
use Rattle.lexer.proofs.classes.byte_or_zero.Goals as goal

pub returns-then-i-text : goal.returns-then-i-text
returns-then-i-text c = refl

pub returns : goal.returns
returns c = sym (get_or-eq_default c.args.text.now 0 c.if-i-text.false)
