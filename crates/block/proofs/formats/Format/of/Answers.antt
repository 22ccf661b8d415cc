-- The function `of` meets its contract, for each type. Assumes nothing.
use Rattle.block.proofs.FormatSettled.{standard-settled, dna-settled}
use Rattle.lexer.proofs.OptionLaws.{given-or}
use mathlib.Core.Path.{◌∙◌}
use Rattle.block.proofs.formats.Format.of.Goals as goal

pub returns-in-Standard : goal.returns-in-Standard
returns-in-Standard c =
    standard-settled _ _ _ (c.unwrap_or-missing.ensures ∙ given-or _ _) (c.unwrap_or-interleave.ensures ∙ given-or _ _) (c.unwrap_or-data_type.ensures ∙ given-or _ _) c.in-Standard.is (c.given_symbols-count.ensures _ c.binary.ensures)

pub returns-in-Dna : goal.returns-in-Dna
returns-in-Dna c =
    dna-settled _ _ _ (c.unwrap_or-missing.ensures ∙ given-or _ _) (c.unwrap_or-interleave.ensures ∙ given-or _ _) (c.unwrap_or-data_type.ensures ∙ given-or _ _) _ (c.unwrap_or.ensures ∙ given-or _ _) c.in-Dna.is c.acgt-count.ensures
