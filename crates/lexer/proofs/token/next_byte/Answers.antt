-- The function `next_byte` meets its contract, by the mode of the cursor. Assumes nothing.
use Rattle.lexer.proofs.TextItems.{next-mode, next-over}
use Rattle.lexer.specs.Bytes.{item_of}
use mathlib.Core.Path.{◌∙◌}
use Rattle.lexer.proofs.token.next_byte.Goals as goal

pub returns-in-Word : goal.returns-in-Word
unfolding item_of
returns-in-Word c = c.word_byte.ensures ∙ next-mode _ _ _ c.in-Word.is

pub returns-in-Quoted : goal.returns-in-Quoted
unfolding item_of
returns-in-Quoted c = c.quoted_byte.ensures ∙ next-mode _ _ _ c.in-Quoted.is

pub returns-in-String : goal.returns-in-String
unfolding item_of
returns-in-String c = c.string_byte.ensures ∙ next-mode _ _ _ c.in-String.is

pub returns-in-Between : goal.returns-in-Between
unfolding item_of
returns-in-Between c = c.mark_byte.ensures ∙ next-mode _ _ _ c.in-Between.is

pub returns-in_default : goal.returns-in_default
returns-in_default c = next-over _ _ c.in_default.not-Word c.in_default.not-Quoted c.in_default.not-String c.in_default.not-Between
