-- The function `symbols_line` meets its contract: behind the key the symbols of STANDARD are judged; those of DNA are always the same. Assumes nothing.
use Rattle.lexer.specs.Base.{bytes}
use mathlib.Core.Path.{refl}
use Rattle.judging.proofs.OpeningTold.{symbols-dna, symbols-keyed, symbols-no-dna, symbols-no-key}
use Rattle.judging.proofs.symbols.symbols_line.Goals as goal

pub returns-in_ok-j-in-Standard : goal.returns-in_ok-j-in-Standard
unfolding bytes
returns-in_ok-j-in-Standard c = symbols-keyed _ _ _ c.in-Standard.is _ c.in_ok-j-in-Standard.ensures _ refl _ c.standard_symbols.ensures

pub returns-in_err-j-in-Standard : goal.returns-in_err-j-in-Standard
unfolding bytes
returns-in_err-j-in-Standard c = rw c.from_residual.ensures (symbols-no-key _ _ _ c.in-Standard.is _ c.in_err-j-in-Standard.ensures refl)

pub returns-in_ok-k-in-Dna : goal.returns-in_ok-k-in-Dna
unfolding bytes
returns-in_ok-k-in-Dna c = symbols-dna _ _ _ c.in-Dna.is _ c.in_ok-k-in-Dna.ensures _ refl

pub returns-in_err-k-in-Dna : goal.returns-in_err-k-in-Dna
unfolding bytes
returns-in_err-k-in-Dna c = rw c.from_residual-in_err-k-in-Dna.ensures (symbols-no-dna _ _ _ c.in-Dna.is _ c.in_err-k-in-Dna.ensures refl)
