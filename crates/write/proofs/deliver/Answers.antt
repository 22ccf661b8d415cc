-- The function `deliver` meets its contract: the place behind the form, in a scratch of one byte, measures it. Assumes nothing.
use Rattle.lexer.specs.Places.{nowhere}
use Rattle.write.proofs.FormDelivered.{form-short, form-whole, long-delivered}
use native.Mathlib.Omega.{arith}
use Rattle.write.proofs.deliver.Goals as goal

pub returns-then-size-gt1048576 : goal.returns-then-size-gt1048576
unfolding nowhere
returns-then-size-gt1048576 c = λ x shape. long-delivered x _ (omega (arith, c.well_formed.1.1.0)) (c.put_form-size.ensures.put x shape) c.if-size-gt1048576.true

pub returns-then-buffer-size : goal.returns-then-buffer-size
unfolding nowhere
returns-then-buffer-size c = λ x shape. form-short x _ (omega (arith, c.well_formed.1.1.0)) (c.put_form-size.ensures.put x shape) c.if-size-gt1048576.false c.if-buffer-size.true

pub returns : goal.returns
returns c = λ x shape. form-whole x _ (omega (arith, c.well_formed.1.1.0)) (c.put_form-size.ensures.put x shape) c.if-size-gt1048576.false c.if-buffer-size.false (c.put_form.ensures.put x shape)
