-- The function `single_symbol` meets its contract: a text of one byte, which is valid. Assumes nothing.
use Rattle.block.proofs.FormatSigns.{word_left, single-valid, single-invalid, single-longer, single-empty}
use Rattle.lexer.proofs.NextBytes.{yielded}
use mathlib.Core.Path.{sym, ◌∙◌}
use Rattle.block.proofs.format_options.single_symbol.Goals as goal

pub returns-then-valid_symbol : goal.returns-then-valid_symbol
returns-then-valid_symbol c =
    let first = (yielded _ _ _ c.next_byte.ensures).byte _ _ c.in_ok-b.was in
    let last = (yielded _ _ _ c.next_byte-2.ensures).end c.in_default.is in
    let text = word_left _ _ _ c.text_start-front.ensures c.start_of.ensures in
    single-valid _ _ _ (sym text ∙ first.here) last (sym c.valid_symbol.ensures ∙ c.if-valid_symbol.true)

pub returns : goal.returns
returns c =
    let first = (yielded _ _ _ c.next_byte.ensures).byte _ _ c.in_ok-b.was in
    let last = (yielded _ _ _ c.next_byte-2.ensures).end c.in_default.is in
    let text = word_left _ _ _ c.text_start-front.ensures c.start_of.ensures in
    single-invalid _ _ _ (sym text ∙ first.here) last (sym c.valid_symbol.ensures ∙ c.if-valid_symbol.false)

pub returns-in-Some : goal.returns-in-Some
returns-in-Some c =
    let first = (yielded _ _ _ c.next_byte.ensures).byte _ _ c.in_ok-b.was in
    let second = (yielded _ _ _ c.next_byte-2.ensures).byte _ _ c.in-Some.is in
    let text = word_left _ _ _ c.text_start-front.ensures c.start_of.ensures in
    single-longer _ _ _ (sym text ∙ first.here) _ _ second.here

pub returns-in_err-b : goal.returns-in_err-b
returns-in_err-b c =
    let text = word_left _ _ _ c.text_start-front.ensures c.start_of.ensures in
    rw c.from_residual.ensures (single-empty _ (sym text ∙ (yielded _ _ _ c.next_byte.ensures).end c.in_err-b.was))
