-- The function `lex` meets its contract: its refusals in order, then the walk over the text. Assumes nothing.
use Rattle.lexer.proofs.LexedAnswers.{answer-long, answer-short, answer-invalid, answer-mapped}
use borrow.Author.Rules.{rules}
use mathlib.Core.Path.{sym, ◌∙◌}
use Rattle.lexer.proofs.lexing.lex.Goals as goal

pub returns-then-n-gt1048576 : goal.returns-then-n-gt1048576
returns-then-n-gt1048576 c = answer-long _ _ _ _ c.no_place.ensures c.if-n-gt1048576.true

pub returns-then-work-n : goal.returns-then-work-n
returns-then-work-n c = answer-short _ _ _ c.if-n-gt1048576.false _ c.no_place-then-work-n.ensures c.if-work-n.true

pub returns-then-not-is_utf8 : goal.returns-then-not-is_utf8
returns-then-not-is_utf8 c =
    answer-invalid _ _ _ c.if-n-gt1048576.false c.if-work-n.false _ c.no_place-then-not-is_utf8.ensures (sym c.is_utf8.ensures ∙ c.if-not-is_utf8.true)

pub returns : goal.returns
returns c =
    let valid = sym c.is_utf8.ensures ∙ c.if-not-is_utf8.false in
    answer-mapped _ _ _ c.if-n-gt1048576.false c.if-work-n.false valid _ _ _ (λ f g e. search rules) c.map_err.ensures.cases c.store_starts.ensures.answer c.store_starts.ensures.stored
