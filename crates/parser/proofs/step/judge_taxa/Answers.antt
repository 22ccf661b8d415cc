-- The function `judge_taxa` meets its contract. Assumes nothing.
use Rattle.lexer.specs.Base.{bytes}
use Rattle.parser.proofs.TaxaTold.{names-told, other-told}
use Rattle.parser.proofs.step.judge_taxa.Goals as goal

pub returns-then-not-is : goal.returns-then-not-is
unfolding bytes
returns-then-not-is c =
    other-told _ _ _ _ _ _ c.requires.1 c.requires.2 _ c.is.ensures c.if-not-is.true

pub returns : goal.returns
returns c =
    names-told _ _ _ _ _ _ _ _ c.requires.2 _ c.free_from-base.ensures c.unique_names.ensures
