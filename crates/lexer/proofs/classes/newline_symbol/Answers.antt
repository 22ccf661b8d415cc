-- The function newline_symbol meets its contract. Assumes nothing.
use Rattle.lexer.proofs.ClassLaws.{next1-told}
use Rattle.lexer.specs.Base.{pick}
use Rattle.lexer.specs.Classes.{symbol_of}
use borrow.Author.Tests.{eq-eqb, ne_eqb}
use mathlib.Core.Path.{refl}
use Rattle.lexer.proofs.classes.newline_symbol.Goals as goal
use Rattle.lexer.proofs.classes.newline_symbol.Goals.{else-text-i-eq13-via-then-text-i-eq13+else-byte_or_zero-eq10, else-text-i-eq13-via-else-text-i-eq13}

pub returns-then-byte_or_zero-eq10 : goal.returns-then-byte_or_zero-eq10
unfolding symbol_of pick
returns-then-byte_or_zero-eq10 c =
    rw (eq-eqb _ 13 c.if-text-i-eq13.true, next1-told _ _ 10 refl, ← c.byte_or_zero.ensures, eq-eqb _ 10 c.if-byte_or_zero-eq10.true)

pub returns : goal.returns
unfolding symbol_of pick
returns c =
    elim c.else-text-i-eq13.branch [
      | else-text-i-eq13-via-then-text-i-eq13+else-byte_or_zero-eq10 w ↦ rw (eq-eqb _ 13 w.if-text-i-eq13.true, next1-told _ _ 10 refl, ← w.byte_or_zero.ensures, ne_eqb _ 10 w.if-byte_or_zero-eq10.false)
      | else-text-i-eq13-via-else-text-i-eq13 w ↦ rw (ne_eqb _ 13 w.if-text-i-eq13.false)
    ]
