-- The function `class_of` meets its contract: the class of the bytes that are told without the chart computes. Assumes nothing.
use Rattle.lexer.proofs.ClassLaws.{plain-is-other}
use Rattle.lexer.proofs.SymbolLaws.{class-high}
use Rattle.lexer.specs.Base.{pick}
use Rattle.lexer.specs.Classes.{class}
use mathlib.Core.Logic.{⊎_elim}
use mathlib.Core.Path.{sym, ◌∙◌}
use Rattle.lexer.proofs.classes.class_of.Goals as goal

pub returns-then-plain : goal.returns-then-plain
returns-then-plain c = sym (plain-is-other _ (sym c.plain.ensures ∙ c.if-plain.true))

pub returns-then-b-ge128 : goal.returns-then-b-ge128
returns-then-b-ge128 c = sym (class-high _ c.if-b-ge128.true)

pub returns-in-10 : goal.returns-in-10
unfolding class pick
returns-in-10 c = rw c.in-10.is

pub returns-in-32 : goal.returns-in-32
unfolding class pick
returns-in-32 c = rw c.in-32.is

pub returns-in-34 : goal.returns-in-34
unfolding class pick
returns-in-34 c = ⊎_elim (λ e. rw e) (λ e. rw e) c.in-34.is

pub returns-in-91 : goal.returns-in-91
unfolding class pick
returns-in-91 c = rw c.in-91.is
