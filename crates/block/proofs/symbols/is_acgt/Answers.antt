-- The function `is_acgt` meets its contract. Assumes nothing.
use Rattle.block.proofs.AcgtListed.{other-count, four-symbols}
use lib.ListN.{length-map}
use native.Mathlib.Omega.{arith}
use Rattle.block.proofs.symbols.is_acgt.Goals as goal

pub returns-then-s-ne4 : goal.returns-then-s-ne4
returns-then-s-ne4 c = λ l k. other-count _ _ (omega (arith, c.well_formed.0.1.1.0.1.0.1, length-map c.args.s.bytes (λ v. v))) l k c.if-s-ne4.true

pub returns : goal.returns
returns c = λ l k. four-symbols _ _ (omega (arith, c.well_formed.0.1.1.0.1.0.1, length-map c.args.s.bytes (λ v. v))) l k c.if-s-ne4.false
