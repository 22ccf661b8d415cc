use Rattle.lexer.specs.Base.{bytes}
use Rattle.record.specs.Spell.{order_word}
use Rattle.writing.proofs.EntryPuts.{types-turn, types-end}
use Rattle.writing.proofs.PlainCharacters.{types-bare}
use Rattle.writing.proofs.PutWalks.{going-turn}
use borrow.Author.Rules.{rules}
use Rattle.writing.proofs.characters.put_types.Goals as goal

pub loop-preserved-in-Some : goal.loop-preserved-in-Some
unfolding bytes order_word
loop-preserved-in-Some c =
    let p = c.plain_end.ensures _ c.in-Some.is in
    going-turn c.loop.invariant (search rules) (rw p.0 (types-bare _ _ _ _ c.loop-test.true _ c.label_at-label.ensures _ p.1 c.put_all-m.ensures))

pub loop-preserved-in-Some-plain_end : goal.loop-preserved-in-Some-plain_end
unfolding bytes order_word
loop-preserved-in-Some-plain_end c =
    let p = c.plain_end-in-loop.ensures _ c.in-Some-plain_end.is in
    going-turn c.loop.invariant (search rules) (rw p.0 (types-bare _ _ _ _ c.loop-test.true _ c.label_at-label.ensures _ p.1 c.put_all-m-in-Some-plain_end.ensures))

pub loop-preserved : goal.loop-preserved
loop-preserved c =
    going-turn c.loop.invariant (search rules)
    (types-turn _ _ _ _ c.loop-test.true _ _ _ c.label_at-label.ensures c.order_at-order.ensures c.states_at.ensures _ c.next_at-i.ensures c.put_type-m.ensures)

pub returns : goal.returns
returns c = c.loop.invariant.finish _ _ (types-end _ c.loop-test.false)
