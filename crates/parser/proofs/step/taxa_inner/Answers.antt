-- The function `taxa_inner` meets its contract. Assumes nothing.
use Rattle.parser.proofs.TaxaTold.{taxa-made}
use Rattle.parser.proofs.step.taxa_inner.Goals as goal

pub returns : goal.returns
returns c = taxa-made _ _ _ _ _ _ _ _ c.judge_taxa-judgement.ensures _ _ _ _ c.taxa_step.ensures.step c.taxa_step.ensures.placed
