-- The function `dna_options` meets its contract, for each type. Assumes nothing.
use Rattle.block.proofs.GoodSymbols.{standard-options, dna-allowed}
use Rattle.lexer.proofs.OptionLaws.{given-or}
use Rattle.block.specs.Formats.{meant}
use Rattle.block.proofs.symbols.dna_options.Goals as goal

pub returns-in-Standard : goal.returns-in-Standard
unfolding meant
returns-in-Standard c = standard-options _ _ _ c.in-Standard.is

pub returns-in-Dna : goal.returns-in-Dna
unfolding meant
returns-in-Dna c =
    let four = c.is_acgt-four.ensures _ (c.given_symbols.ensures _ c.acgt.ensures) in
    rw (four, c.dna_code.ensures, c.lower.ensures, c.dna_code-gap.ensures, c.unwrap_or.ensures, given-or) (dna-allowed _ _ _ c.in-Dna.is)
