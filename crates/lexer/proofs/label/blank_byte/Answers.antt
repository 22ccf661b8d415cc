-- The function `blank_byte` meets its contract: below 192 the class tells, from there on the two bytes behind. Assumes nothing.
use Rattle.lexer.proofs.BlankBytes.{low-blank, low-full, blank-high}
use mathlib.Core.Path.{◌∙◌}
use Rattle.lexer.proofs.label.blank_byte.Goals as goal

pub returns-then-b-ge192 : goal.returns-then-b-ge192
returns-then-b-ge192 c = c.wide_bytes.ensures ∙ rw (c.second_ahead.ensures, c.byte_ahead.ensures) (blank-high _ _ c.if-b-ge192.true)

pub returns-in-Newline : goal.returns-in-Newline
returns-in-Newline c = low-blank _ _ c.if-b-ge192.false _ c.class_of.ensures c.in-Newline.is

pub returns-in_default : goal.returns-in_default
returns-in_default c = low-full _ _ c.if-b-ge192.false _ c.class_of.ensures c.in_default.not-Newline c.in_default.not-Blank c.in_default.not-Part
