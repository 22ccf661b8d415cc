use Rattle.writing.proofs.EntryPuts.{each_none, each_turn}
use Rattle.writing.proofs.PutWalks.{going-turn}
use borrow.Author.Rules.{rules}
use mathlib.Core.Path.{sym, ◌∙◌}
use Rattle.writing.proofs.characters.put_each.Goals as goal

pub loop-buffer-preserved : goal.loop-buffer-preserved
loop-buffer-preserved c =
    going-turn c.loop-buffer.invariant (search rules)
    (each_turn _ _ (sym c.byte_or_zero.ensures ∙ c.loop-buffer-test.true) c.put-m.ensures c.skip.ensures c.put_quoted-quoted.ensures.put)

pub returns : goal.returns
returns c = c.loop-buffer.invariant.finish _ _ (each_none _ _ (λ e. c.loop-buffer-test.false (c.byte_or_zero.ensures ∙ e)))
