-- The function `told_type` meets its contract: ORD, UNORD, or nothing is told. Assumes nothing.
use Rattle.std.proofs.Common.{rules, of_calls}
use Rattle.assumptions.specs.ToldWords.{told_type, told_keyword}
use Rattle.assumptions.proofs.assumptions.told_type.Goals as goal
use lib.ListN.{drop}

pub returns : goal.returns
unfolding told_type
returns c = c.type_by.ensures (λ k. told_keyword k (drop c.args.start c.args.text.now)) (λ k r p. search (rules, of_calls, p))
