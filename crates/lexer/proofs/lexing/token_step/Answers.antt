-- The function `token_step` meets its contract: a blank, a token that is told at once, or what the symbol says. Assumes nothing.
use Rattle.lexer.proofs.WordsTold.{blank_step, told-step}
use borrow.Author.Rules.{rules}
use mathlib.Core.Path.{sym}
use Rattle.lexer.proofs.lexing.token_step.Goals as goal

pub returns-then-text-i-eq32 : goal.returns-then-text-i-eq32
returns-then-text-i-eq32 c = sym (blank_step _ _ (search rules) c.if-text-i-eq32.true)

pub returns-then-i-end : goal.returns-then-i-end
returns-then-i-end c = sym (told-step _ _ _ c.told_end-end.ensures (search rules) c.if-i-end.true)
