-- The function `any_type` meets its contract. Assumes nothing.
use Rattle.std.proofs.Common.{rules, of_calls}
use Rattle.block.specs.Typeset.{ordering}
use Rattle.lexer.specs.Words.{is}
use Rattle.lexer.specs.Stored.{word_of}
use Rattle.assumptions.proofs.assumptions.any_type.Goals as goal

pub returns : goal.returns
unfolding ordering
returns c = c.type_by.ensures (λ k. is k (word_of c.args.text.now c.args.work.now c.args.i)) (λ k r p. search (rules, of_calls, p))
