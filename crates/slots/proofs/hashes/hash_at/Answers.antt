-- The function `hash_at` meets its contract: a name that is told by its bytes has their number, any other that of its text. Assumes nothing.
use Rattle.lexer.proofs.WordsTold.{stop-told}
use Rattle.lexer.specs.Tokens.{Token}
use Rattle.lexer.specs.Words.{spaced}
use Rattle.slots.specs.Hashes.{hash}
use mathlib.Core.Path.{sym, ap, ◌∙◌}
use native.Mathlib.Omega.{arith}
use Rattle.slots.proofs.hashes.hash_at.Goals as goal

pub hash_run-requires : goal.hash_run-requires
hash_run-requires c =
    let within = (stop-told _ _ _ c.word_stop-end.ensures c.if-start-end.true).within in
    (omega arith, omega arith)

pub returns-then-start-end : goal.returns-then-start-end
returns-then-start-end c = c.hash_run.ensures ∙ ap (λ (t : Token). hash (spaced t.text)) (sym (stop-told _ _ _ c.word_stop-end.ensures c.if-start-end.true).told)
