use Rattle.std.proofs.lemmas.Result.{err_from_is_err_and}
use Rattle.block.proofs.WalkLaws.{walking-newline, walking-turn, walking-refused, walking-end}
use Rattle.block.specs.Formats.{formatted_of, formatting_of}
use mathlib.Core.Path.{sym, ◌∙◌}
use Rattle.block.proofs.format_options.format_walk.Goals as goal

pub loop-i-init : goal.loop-i-init
unfolding formatting_of
loop-i-init c = record { rest = rw (c.none.ensures _ _) }

pub loop-i-preserved-then-newline : goal.loop-i-preserved-then-newline
loop-i-preserved-then-newline c = walking-newline _ _ _ _ c.loop-i.invariant c.loop-i-test.true (sym c.newline.ensures ∙ c.if-newline.true)

pub loop-i-preserved : goal.loop-i-preserved
unfolding formatted_of
loop-i-preserved c =
    walking-turn _ _ _ _ c.loop-i.invariant _ c.loop-i-test.true (sym c.newline.ensures ∙ c.if-newline.false) (sym c.in_ok-mode.ensures)

pub returns-in_err-mode : goal.returns-in_err-mode
unfolding formatted_of
returns-in_err-mode c =
    let p = err_from_is_err_and c.from_residual.result c.from_residual.ensures.1 in
    rw (p.1, p.2) (walking-refused _ _ _ _ c.loop-i.invariant _ _ c.loop-i-test.true (sym c.newline.ensures ∙ c.if-newline.false) (sym c.in_err-mode.ensures))

pub returns : goal.returns
unfolding formatted_of
returns c = walking-end _ _ _ _ c.loop-i.invariant c.loop-i-test.false
