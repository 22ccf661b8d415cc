-- The function `form_word` meets its contract. Assumes nothing.
use Rattle.assumptions.specs.TypesetWalk.{form_word}
use Rattle.block.specs.Typeset.{typeset_turn}
use Rattle.lexer.specs.Base.{pick, bytes}
use Rattle.lexer.specs.Stored.{word_of}
use mathlib.Core.Path.{sym, ◌∙◌}
use Rattle.assumptions.proofs.heads.form_word.Goals as goal

pub returns-then-is : goal.returns-then-is
unfolding form_word typeset_turn word_of pick bytes
returns-then-is c = λ t. rw (sym c.is.ensures ∙ c.if-is.true)

pub returns-then-is-2 : goal.returns-then-is-2
unfolding form_word typeset_turn word_of pick bytes
returns-then-is-2 c = λ t. rw (sym c.is.ensures ∙ c.if-is.false, sym c.is-2.ensures ∙ c.if-is-2.true)

pub returns : goal.returns
unfolding form_word typeset_turn word_of pick bytes
returns c = λ t. rw (sym c.is.ensures ∙ c.if-is.false, sym c.is-2.ensures ∙ c.if-is-2.false)
