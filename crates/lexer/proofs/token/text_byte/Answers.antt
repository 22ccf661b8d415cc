-- The function `text_byte` meets its contract: a CR LF, another CR, or a byte as it is. Assumes nothing.
use Rattle.lexer.proofs.TextItems.{text-line, text-return, text-plain}
use mathlib.Core.Path.{sym, ◌∙◌}
use Rattle.lexer.proofs.token.text_byte.Goals as goal

pub returns-then-byte_or_zero-eq10 : goal.returns-then-byte_or_zero-eq10
returns-then-byte_or_zero-eq10 c =
    text-line _ _ c.requires _ c.if-b-eq13.true (sym c.byte_or_zero.ensures ∙ c.if-byte_or_zero-eq10.true)

pub returns-else-byte_or_zero-eq10 : goal.returns-else-byte_or_zero-eq10
returns-else-byte_or_zero-eq10 c =
    text-return _ _ c.requires _ c.if-b-eq13.true (λ e. c.if-byte_or_zero-eq10.false (c.byte_or_zero.ensures ∙ e))

pub returns : goal.returns
returns c = text-plain _ _ c.requires _ c.if-b-eq13.false
