-- The function `first_byte` meets its contract. Assumes nothing.
use Rattle.lexer.proofs.MarkLaws.{first-told}
use Rattle.lexer.specs.Base.{pick}
use mathlib.Core.Path.{sym, ◌∙◌}
use Rattle.lexer.proofs.lexing.first_byte.Goals as goal

pub returns-then-starts_with : goal.returns-then-starts_with
unfolding pick
returns-then-starts_with c = sym (first-told _ _ c.starts_with.ensures.value ∙ rw c.if-starts_with.true)

pub returns : goal.returns
unfolding pick
returns c = sym (first-told _ _ c.starts_with.ensures.value ∙ rw c.if-starts_with.false)
