-- The function `text_is` meets its contract. A turn passes one byte of the keyword and one of the text that are alike, and keeps whether all are.
-- Assumes nothing.
use Rattle.lexer.proofs.TextWalks.{Matching}
use Rattle.lexer.proofs.label.text_is.Given as goal

abbrev pub invariant-loop-k : goal.invariant-loop-k
invariant-loop-k l = Matching l.text l.keyword l.initial.d l.d l.k-index
