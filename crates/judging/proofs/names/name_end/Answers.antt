-- The function `name_end` meets its contract. Assumes nothing.
use Rattle.judging.proofs.NameRests.{name-over}
use Rattle.lexer.proofs.Basics.{pick_first, pick_second}
use mathlib.Core.Path.{sym, ◌∙◌}
use Rattle.judging.proofs.names.name_end.Goals as goal

pub returns-then-s : goal.returns-then-s
returns-then-s c = sym (pick_first _ _ _ (name-over _ ∙ c.if-s.true))

pub returns : goal.returns
returns c = sym (pick_second _ _ _ (name-over _ ∙ c.if-s.false))
