-- The function `told_end` meets its contract: a byte that is a token by itself, or a word that is told by its bytes. Assumes nothing.
use Rattle.lexer.proofs.WordsTold.{stands-alone, told-alone, told-word}
use borrow.Author.Tests.{eq-eqb, ne_eqb}
use mathlib.Core.Path.{◌∙◌}
use native.Mathlib.Omega.{arith}
use Rattle.lexer.proofs.lexing.told_end.Goals as goal

pub returns-then-entry_of-eq3 : goal.returns-then-entry_of-eq3
returns-then-entry_of-eq3 c =
    told-alone _ _ (stands-alone _ c.requires.1 _ _ c.entry_of.ensures (omega arith) ∙ eq-eqb _ _ c.if-entry_of-eq3.true)

pub returns : goal.returns
returns c =
    c.word_stop_by.ensures ∙ told-word _ _ (stands-alone _ c.requires.1 _ _ c.entry_of.ensures (omega arith) ∙ ne_eqb _ _ c.if-entry_of-eq3.false)
