use Rattle.writing.proofs.EntryPuts.{entries-entry, entries-plain, entries-end}
use Rattle.writing.proofs.PlainCharacters.{entries-bare}
use Rattle.writing.proofs.PutWalks.{going-turn}
use borrow.Author.Rules.{rules}
use mathlib.Core.Path.{refl}
use Rattle.writing.proofs.characters.put_entries.Goals as goal

pub loop-k-preserved-in-Some : goal.loop-k-preserved-in-Some
loop-k-preserved-in-Some c =
    let p = c.plain_end.ensures _ c.in-Some.is in
    going-turn c.loop-k.invariant refl (rw p.0 (entries-bare _ _ _ _ c.loop-k-test.true _ c.label_at-label.ensures _ p.1))

pub loop-k-preserved-then-not-is_labelled : goal.loop-k-preserved-then-not-is_labelled
loop-k-preserved-then-not-is_labelled c =
    going-turn c.loop-k.invariant refl
    (entries-plain _ _ _ _ c.loop-k-test.true _ _ _ c.label_at-label.ensures c.order_at.ensures c.states_at-states.ensures _ _ c.is_labelled.ensures c.if-not-is_labelled.true)

pub loop-k-preserved : goal.loop-k-preserved
loop-k-preserved c =
    going-turn c.loop-k.invariant (search rules)
    (entries-entry _ _ _ _ c.loop-k-test.true _ _ _ c.label_at-label.ensures c.order_at.ensures c.states_at-states.ensures _ _ c.is_labelled.ensures c.if-not-is_labelled.false c.put_entry-entry.ensures)

pub returns : goal.returns
returns c = c.loop-k.invariant.finish _ _ (entries-end _ _ c.loop-k-test.false)
