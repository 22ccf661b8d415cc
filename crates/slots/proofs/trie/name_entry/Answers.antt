-- The function `name_entry` meets its contract. Assumes nothing.
use Prim.Native.Nat.{◌+◌}
use Rattle.lexer.specs.Stored.{word_of}
use Rattle.slots.proofs.PathLaws.{told_none, told-whole}
use borrow.Author.Tests.{leb-false}
use mathlib.Core.Path.{sym, ◌∙◌}
use native.Mathlib.Omega.{arith}
use Rattle.slots.proofs.trie.name_entry.Goals as goal

pub name_reach-requires : goal.name_reach-requires
name_reach-requires c =
    let there = leb-false c.start_of-top.result (c.args.head + 1) (sym c.given_up.ensures ∙ c.if-given_up.false) in
    omega arith

pub returns-in-Whole : goal.returns-in-Whole
unfolding word_of
returns-in-Whole c =
    rw (c.value_at.ensures, ← c.start_of.ensures)
    (told-whole c.start_of-top.ensures (leb-false _ _ (sym c.given_up.ensures ∙ c.if-given_up.false)) (rw c.in-Whole.is at c.name_reach.ensures))

pub returns-in-Part : goal.returns-in-Part
unfolding word_of
returns-in-Part c =
    let e = rw c.in-Part.is at c.name_reach.ensures in
    rw (← c.start_of.ensures) (told_none c.start_of-top.ensures (leb-false _ _ (sym c.given_up.ensures ∙ c.if-given_up.false)) e.0 e.1)
