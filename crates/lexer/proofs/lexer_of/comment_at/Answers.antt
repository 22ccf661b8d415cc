-- The function comment_at meets its contract: where the comment ends, or that it does not, is what `comment_end` says. Assumes nothing.
use Rattle.std.specs.Prelude.{Ok}
use Rattle.lexer.specs.Positions.{passed, passed_comment}
use mathlib.Core.Path.{sym, ap, ◌∙◌}
use Rattle.lexer.proofs.lexer_of.comment_at.Goals as goal

pub moved_to-requires : goal.moved_to-requires
moved_to-requires c = c.requires.1

pub returns : goal.returns
unfolding passed passed_comment
returns c = ap Ok c.moved_to.ensures ∙ ap (passed _ _ _ _) (sym c.in-Ok.is ∙ c.comment_end.ensures)

pub returns-in_default : goal.returns-in_default
unfolding passed passed_comment
returns-in_default c = ap (passed _ _ _ _) (sym c.in_default.is ∙ c.comment_end.ensures)
