-- The function classed_symbol meets its contract: the class of the byte says which rule its symbol has. Assumes nothing.
use Rattle.lexer.proofs.ClassLaws.{symbol-at-class}
use Rattle.lexer.specs.Base.{pick}
use Rattle.lexer.specs.Classes.{symbol_of}
use Rattle.lexer.specs.declared.Class.{Class}
use borrow.Author.Tests.{eq-eqb, ne_eqb}
use mathlib.Core.Path.{sym, ◌∙◌}
use Rattle.lexer.proofs.classes.classed_symbol.Goals as goal

pub returns-in-Newline : goal.returns-in-Newline
returns-in-Newline c = c.newline_symbol.ensures ∙ symbol-at-class _ _ Class.Newline c.requires (sym c.class_of.ensures ∙ c.in-Newline.is)

pub returns-in-Blank : goal.returns-in-Blank
unfolding symbol_of
returns-in-Blank c = symbol-at-class _ _ Class.Blank c.requires (sym c.class_of.ensures ∙ c.in-Blank.is)

pub returns-then-b-eq39 : goal.returns-then-b-eq39
unfolding symbol_of pick
returns-then-b-eq39 c = rw (eq-eqb _ 39 c.if-b-eq39.true) at (symbol-at-class _ _ Class.Quote c.requires (sym c.class_of.ensures ∙ c.in-Quote.is))

pub returns-else-b-eq39 : goal.returns-else-b-eq39
unfolding symbol_of pick
returns-else-b-eq39 c = rw (ne_eqb _ 39 c.if-b-eq39.false) at (symbol-at-class _ _ Class.Quote c.requires (sym c.class_of.ensures ∙ c.in-Quote.is))

pub returns-in-Comment : goal.returns-in-Comment
unfolding symbol_of
returns-in-Comment c = symbol-at-class _ _ Class.Comment c.requires (sym c.class_of.ensures ∙ c.in-Comment.is)

pub returns-then-b-eq93 : goal.returns-then-b-eq93
unfolding symbol_of pick
returns-then-b-eq93 c = rw (eq-eqb _ 93 c.if-b-eq93.true) at (symbol-at-class _ _ Class.Punctuation c.requires (sym c.class_of.ensures ∙ c.in-Punctuation.is))

pub returns-else-b-eq93 : goal.returns-else-b-eq93
unfolding symbol_of pick
returns-else-b-eq93 c = rw (ne_eqb _ 93 c.if-b-eq93.false) at (symbol-at-class _ _ Class.Punctuation c.requires (sym c.class_of.ensures ∙ c.in-Punctuation.is))

pub returns-in-Other : goal.returns-in-Other
unfolding symbol_of
returns-in-Other c = symbol-at-class _ _ Class.Other c.requires (sym c.class_of.ensures ∙ c.in-Other.is)

pub returns-in-Part : goal.returns-in-Part
returns-in-Part c = c.part_symbol.ensures ∙ symbol-at-class _ _ Class.Part c.requires (sym c.class_of.ensures ∙ c.in-Part.is)
