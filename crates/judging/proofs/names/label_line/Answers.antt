-- The function `label_line` meets its contract: at an LF stands the empty label, elsewhere a label is a name. Assumes nothing.
use Rattle.block.specs.Sound.{sound_label}
use Rattle.judging.proofs.NameJudged.{lf-within, line-over, label-name}
use Rattle.lexer.specs.Base.{pick, is_empty}
use mathlib.Core.Path.{sym, ◌∙◌}
use native.Mathlib.Omega.{arith}
use Rattle.judging.proofs.names.label_line.Goals as goal

pub overflow_add-result : goal.overflow_add-result
overflow_add-result c = let a = c.args in omega (arith, lf-within a.source.now a.i (sym c.byte_or_zero.ensures ∙ c.if-byte_or_zero-eq10.true))

pub returns-then-byte_or_zero-eq10 : goal.returns-then-byte_or_zero-eq10
unfolding sound_label is_empty pick
returns-then-byte_or_zero-eq10 c = line-over _ _ sound_label (sym c.byte_or_zero.ensures ∙ c.if-byte_or_zero-eq10.true)

pub returns : goal.returns
returns c = label-name _ _ (λ e. c.if-byte_or_zero-eq10.false (c.byte_or_zero.ensures ∙ e)) _ c.name_line.ensures
