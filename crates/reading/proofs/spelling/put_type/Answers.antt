-- The function `put_type` meets its contract. Assumes nothing.
use Rattle.emit.proofs.PutLaws.{puts-as}
use Rattle.lexer.specs.Base.{bytes}
use Rattle.reading.proofs.HeadPieces.{type-dna, type-standard}
use Rattle.reading.proofs.spelling.put_type.Goals as goal

pub returns-in-Standard : goal.returns-in-Standard
unfolding bytes
returns-in-Standard c = puts-as c.put_all.ensures (λ behind. type-standard _ behind c.in-Standard.is)

pub returns-in-Dna : goal.returns-in-Dna
unfolding bytes
returns-in-Dna c = puts-as c.put_all-in-Dna.ensures (λ behind. type-dna _ behind c.in-Dna.is)
