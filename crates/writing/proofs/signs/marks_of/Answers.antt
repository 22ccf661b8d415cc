-- The function `marks_of` meets its contract. Assumes nothing.
use Rattle.writing.proofs.SymbolsTaken.{gap-dna, gap-standard, missing-dna, missing-standard}
use Rattle.writing.proofs.signs.marks_of.Goals as goal

pub returns-in-Standard : goal.returns-in-Standard
returns-in-Standard c =
    let missing = missing-standard _ _ c.in-Standard.is (rw c.symbols_at-symbols.ensures at c.free_sign-missing.ensures) in
    record { of_missing = missing; of_gap = gap-standard _ _ c.in-Standard.is missing (rw c.symbols_at-symbols.ensures at c.free_sign-gap.ensures) }

pub returns-in-Dna : goal.returns-in-Dna
returns-in-Dna c = record { of_missing = missing-dna _ _ c.in-Dna.is; of_gap = gap-dna _ _ c.in-Dna.is }
