-- The function `put_format` meets its contract. Assumes nothing.
use Rattle.emit.proofs.PutLaws.{puts-as}
use Rattle.lexer.specs.Base.{bytes}
use Rattle.writing.proofs.FormatLaws.{format-dna, format-standard}
use Rattle.writing.proofs.formats.put_format.Goals as goal

pub returns-in-Standard : goal.returns-in-Standard
returns-in-Standard c =
    λ made. puts-as c.put_standard.ensures (format-standard _ _ _ c.in-Standard.is made.of_missing made.of_gap)

pub returns-in-Dna : goal.returns-in-Dna
unfolding bytes
returns-in-Dna c = λ made. puts-as c.put_all.ensures (format-dna _ _ _ c.in-Dna.is)
