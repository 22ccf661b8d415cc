-- The function `declare_style` meets its contract: the first of its kind, and what it gives. Assumes nothing.
use Rattle.block.proofs.FormatFew.{format-few}
use Rattle.block.specs.Blocks.{with_format}
use Rattle.block.specs.Formats.{formatted}
use Rattle.block.specs.Outcome.{then}
use Rattle.commands.proofs.GivenLaws.{style_if_some}
use Rattle.commands.specs.DataHeld.{declared}
use Rattle.commands.specs.StateHeld.{data_of, style_of}
use Rattle.lexer.specs.Base.{pick}
use Rattle.std.proofs.lemmas.Result.{err_from_is_err_and}
use mathlib.Core.Path.{sym, ◌∙◌}
use native.Mathlib.Omega.{arith}
use Rattle.commands.proofs.data.declare_style.Goals as goal

pub returns-then-is_some-clause-step : goal.returns-then-is_some-clause-step
unfolding declared pick
returns-then-is_some-clause-step c =
    λ m. rw (← (c.is_some.ensures ∙ style_if_some c.args.text.now c.args.starts.now c.args.d.style), c.if-is_some.true)

pub returns-clause-step : goal.returns-clause-step
unfolding declared pick then formatted with_format data_of style_of
returns-clause-step c =
    λ m. rw (← (c.is_some.ensures ∙ style_if_some c.args.text.now c.args.starts.now c.args.d.style), c.if-is_some.false, ← c.in_ok-style.ensures)

pub returns-clause-placed : goal.returns-clause-placed
unfolding formatted
returns-clause-placed c =
    let few = format-few _ _ _ (sym c.in_ok-style.ensures) in
    λ size p. record { style = omega (arith, few); names = p.names; labels = p.labels; matrix = p.matrix; untyped = p.untyped }

pub returns-in_err-style-clause-step : goal.returns-in_err-style-clause-step
unfolding declared pick then formatted
returns-in_err-style-clause-step c =
    let p = err_from_is_err_and c.from_residual.result c.from_residual.ensures.1 in
    λ m. rw (p.1, p.2, ← (c.is_some.ensures ∙ style_if_some c.args.text.now c.args.starts.now c.args.d.style), c.if-is_some.false, ← c.in_err-style.ensures)
