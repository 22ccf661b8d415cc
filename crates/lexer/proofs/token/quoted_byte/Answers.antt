-- The function `quoted_byte` meets its contract: at a quote another follows at once or the text ends. Assumes nothing.
use Rattle.lexer.proofs.TextItems.{quoted-past, quoted-twice, quoted-once, quoted-text}
use mathlib.Core.Path.{sym, ◌∙◌}
use Rattle.lexer.proofs.token.quoted_byte.Goals as goal

pub returns-then-text-i : goal.returns-then-text-i
returns-then-text-i c = quoted-past _ _ c.if-text-i.true

pub returns-then-byte_or_zero-ne39 : goal.returns-then-byte_or_zero-ne39
returns-then-byte_or_zero-ne39 c =
    quoted-once _ _ c.if-text-i.false c.if-text-i-eq39.true (λ e. c.if-byte_or_zero-ne39.true (c.byte_or_zero.ensures ∙ e))

pub returns-then-text-i-eq39 : goal.returns-then-text-i-eq39
returns-then-text-i-eq39 c =
    quoted-twice _ _ c.if-text-i.false c.if-text-i-eq39.true (sym c.byte_or_zero.ensures ∙ c.if-byte_or_zero-ne39.false)

pub returns : goal.returns
returns c = c.text_byte.ensures ∙ quoted-text _ _ c.if-text-i.false c.if-text-i-eq39.false
