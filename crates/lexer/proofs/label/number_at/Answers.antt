-- The function `number_at` meets its contract: digits, with a `+` in front or without. Assumes nothing.
use Rattle.lexer.proofs.NextBytes.{front-left, yielded}
use Rattle.lexer.proofs.TextWalks.{positive-plus, positive-plain, positive-none}
use Rattle.lexer.specs.Lexing.{word_at}
use Rattle.lexer.specs.Words.{number}
use borrow.Author.Rules.{rules}
use mathlib.Core.Path.{◌∙◌}
use Rattle.lexer.proofs.label.number_at.Goals as goal

pub returns-in-Some-eq43-default : goal.returns-in-Some-eq43-default
unfolding number word_at
returns-in-Some-eq43-default c =
    let some = c.in-Some-eq43-default in
    let read = (yielded _ _ _ c.next_byte.ensures).byte _ _ some.is in
    c.digits_value.ensures ∙ rw (← front-left _ _ _ c.text_start-c.ensures) (positive-plus _ _ _ read.here some.field-0-0-test)

pub returns-in-Some : goal.returns-in-Some
unfolding number word_at
returns-in-Some c =
    let read = (yielded _ _ _ c.next_byte.ensures).byte _ _ c.in-Some.is in
    c.digits_value-in-Some.ensures ∙ rw (← front-left _ _ _ c.text_start-c.ensures) (positive-plain _ _ _ read.here (λ e. search rules))

pub returns-in-None : goal.returns-in-None
unfolding number word_at
returns-in-None c =
    rw (← front-left _ _ _ c.text_start-c.ensures) (positive-none _ ((yielded _ _ _ c.next_byte.ensures).end c.in-None.is))
