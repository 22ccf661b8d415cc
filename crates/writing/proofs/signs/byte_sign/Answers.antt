-- The function `byte_sign` meets its contract. Assumes nothing.
use Rattle.lexer.specs.Base.{pick}
use Rattle.record.specs.Form.{sign}
use Rattle.writing.proofs.SymbolsTaken.{digit-signed, index-signed, none-signed}
use Rattle.writing.specs.Signs.{sign_by}
use native.Mathlib.Omega.{arith}
use Rattle.writing.proofs.signs.byte_sign.Goals as goal

pub returns-in-109 : goal.returns-in-109
unfolding sign_by pick
returns-in-109 c = rw c.in-109.is

pub returns-in-103 : goal.returns-in-103
unfolding sign_by pick
returns-in-103 c = rw c.in-103.is

pub returns-in-48-to-57 : goal.returns-in-48-to-57
unfolding sign
returns-in-48-to-57 c = rw c.byte_or_zero.ensures (digit-signed _ _ _ _ (omega arith) (omega arith))

pub returns-in-128-to-255 : goal.returns-in-128-to-255
unfolding sign
returns-in-128-to-255 c = rw c.byte_or_zero-in-128-to-255.ensures (index-signed _ _ _ _ (omega arith))

pub returns-in_default : goal.returns-in_default
returns-in_default c = none-signed _ _ _ _ (λ low. omega arith) (λ e. omega arith) (λ e. omega arith) (omega arith)

pub returns-in_default-2 : goal.returns-in_default-2
returns-in_default-2 c = none-signed _ _ _ _ (λ low. omega arith) (λ e. omega arith) (λ e. omega arith) (omega arith)
