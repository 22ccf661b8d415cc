-- The function `is_dna` meets its contract. Assumes nothing.
use Rattle.parser.proofs.FinishLaws.{none-dna, given-dna}
use Rattle.parser.specs.ParsedHeld.{is_dna}
use Rattle.parser.proofs.finish.is_dna.Goals as goal

pub returns-in-None : goal.returns-in-None
returns-in-None c = λ text front. none-dna text front _ c.in-None.is

pub returns-in-Standard : goal.returns-in-Standard
unfolding is_dna
returns-in-Standard c = λ text front. rw (← given-dna text front _ _ c.in-Some.is, ← c.unwrap_or.ensures, c.in-Standard.is)

pub returns-in-Dna : goal.returns-in-Dna
unfolding is_dna
returns-in-Dna c = λ text front. rw (← given-dna text front _ _ c.in-Some.is, ← c.unwrap_or.ensures, c.in-Dna.is)
