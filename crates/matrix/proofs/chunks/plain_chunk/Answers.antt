-- The function `plain_chunk` meets its contract: a word that is told by its bytes; else test by test. Assumes nothing.
use Rattle.lexer.proofs.WordsTold.{stop-told}
use Rattle.matrix.proofs.SetTurns.{word-shape}
use Rattle.matrix.proofs.SymbolCounts.{symbols-size}
use mathlib.Core.Path.{sym, ◌∙◌}
use native.Mathlib.Omega.{arith}
use Rattle.matrix.proofs.chunks.plain_chunk.Goals as goal

pub told_chunk-requires : goal.told_chunk-requires
told_chunk-requires c =
    let within = (stop-told _ _ _ c.word_stop-end.ensures c.if-start-end.true).within in
    (omega arith, within, c.requires)

pub returns-then-start-end : goal.returns-then-start-end
returns-then-start-end c = c.told_chunk.ensures ∙ word-shape _ _ _ _ _ _ c.start_of-start.ensures (stop-told _ _ _ c.word_stop-end.ensures c.if-start-end.true) _

pub overflow_add-result : goal.overflow_add-result
overflow_add-result c =
    let few = symbols-size _ _ _ _ _ _ (sym c.symbols.ensures ∙ c.in_ok-k.ensures.ok_part) in
    omega (arith, few, c.requires, c.well_formed)
