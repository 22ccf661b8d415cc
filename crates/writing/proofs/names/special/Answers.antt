-- The function `special` meets its contract. Assumes nothing.
use Rattle.writing.proofs.QuotedBytes.{is-special, not-special}
use mathlib.Core.Path.{sym}
use native.Mathlib.Omega.{arith}
use Rattle.writing.proofs.names.special.Goals as goal

pub returns-in-10 : goal.returns-in-10
returns-in-10 c = sym (is-special _ (λ line slash quote. omega arith))

pub returns-in_default : goal.returns-in_default
returns-in_default c = sym (not-special c.args.b (λ e. grind arith) (λ e. grind arith) (λ e. grind arith) (λ e. grind arith))
