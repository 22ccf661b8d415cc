-- The function `wide_blank` meets its contract: of the bytes from i on two matter. Assumes nothing.
use Rattle.lexer.proofs.BlankBytes.{wide_from}
use mathlib.Core.Path.{◌∙◌}
use Rattle.lexer.proofs.classes.wide_blank.Goals as goal

pub returns : goal.returns
returns c =
    let a = c.args in
    c.wide_bytes.ensures ∙ rw (c.byte_or_zero-2.ensures, c.byte_or_zero.ensures) (wide_from a.b a.i a.text.now)
