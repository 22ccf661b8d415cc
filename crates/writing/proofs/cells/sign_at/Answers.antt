-- The function `sign_at` meets its contract. Assumes nothing.
use Rattle.writing.proofs.SignsRead.{read_one, read-two, digits-told}
use mathlib.Core.Path.{◌∙◌}
use Rattle.writing.proofs.cells.sign_at.Goals as goal

pub returns-then-is_ascii_digit : goal.returns-then-is_ascii_digit
returns-then-is_ascii_digit c =
    let two = digits-told _ _ c.is_ascii_digit.ensures.value c.is_ascii_digit-2.ensures.value in
    read-two _ _ _ _ _ c.byte_or_zero-z.ensures (two ∙ c.if-is_ascii_digit.true) c.entry_of.ensures

pub returns : goal.returns
returns c =
    let two = digits-told _ _ c.is_ascii_digit.ensures.value c.is_ascii_digit-2.ensures.value in
    read_one _ _ _ _ _ c.byte_or_zero-z.ensures (two ∙ c.if-is_ascii_digit.false) c.entry_of-2.ensures
