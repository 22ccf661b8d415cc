-- The function `string_byte` meets its contract. Assumes nothing.
use Rattle.lexer.proofs.TextItems.{string-past, string-quote, string-text}
use mathlib.Core.Path.{◌∙◌}
use Rattle.lexer.proofs.token.string_byte.Goals as goal

pub returns-then-text-i : goal.returns-then-text-i
returns-then-text-i c = string-past _ _ c.if-text-i.true

pub returns-then-text-i-eq34 : goal.returns-then-text-i-eq34
returns-then-text-i-eq34 c = string-quote _ _ c.if-text-i.false c.if-text-i-eq34.true

pub returns : goal.returns
returns c = c.text_byte.ensures ∙ string-text _ _ c.if-text-i.false c.if-text-i-eq34.false
