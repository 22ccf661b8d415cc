-- The function `data_type_of` meets its contract. Assumes nothing.
use mathlib.Core.Path.{sym}
use Rattle.lexer.proofs.Basics.{pick_first, pick_second}
use Rattle.judging.proofs.heads.data_type_of.Goals as goal

pub returns-then-dna : goal.returns-then-dna
returns-then-dna c = sym (pick_first _ _ _ c.if-dna.true)

pub returns : goal.returns
returns c = sym (pick_second _ _ _ c.if-dna.false)
