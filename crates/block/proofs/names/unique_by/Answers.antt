use Rattle.block.proofs.KeptNames.{kept-naming-start, kept-naming-newline, kept-naming-turn, names-judged}
use Rattle.block.proofs.NamesWalk.{naming-end, nameless, name-again}
use Rattle.block.proofs.WalkLaws.{walking-refused}
use Rattle.block.specs.Judged.{judged}
use Rattle.lexer.specs.Stored.{word_of}
use mathlib.Core.Path.{sym, ◌∙◌}
use Rattle.block.proofs.names.unique_by.Goals as goal

pub loop-i-init : goal.loop-i-init
loop-i-init c = kept-naming-start c.requires

pub loop-i-preserved-then-newline : goal.loop-i-preserved-then-newline
loop-i-preserved-then-newline c =
    kept-naming-newline c.requires c.loop-i.invariant c.loop-i-test.true (sym c.newline.ensures ∙ c.if-newline.true)

pub returns-then-not-named : goal.returns-then-not-named
unfolding judged word_of
returns-then-not-named c =
    let k = c.loop-i.invariant in
    names-judged c.requires k
    (walking-refused _ _ _ _ k.naming.walk _ _ c.loop-i-test.true (sym c.newline.ensures ∙ c.if-newline.false) (nameless _ _ (sym c.named.ensures ∙ c.if-not-named.true)))

pub returns-then-found_name : goal.returns-then-found_name
unfolding judged word_of
returns-then-found_name c =
    let k = c.loop-i.invariant in
    names-judged c.requires k
    (walking-refused _ _ _ _ k.naming.walk _ _ c.loop-i-test.true (sym c.newline.ensures ∙ c.if-newline.false)
    (name-again _ _ (sym c.named.ensures ∙ c.if-not-named.false) (sym c.found_name.ensures ∙ c.if-found_name.true)))

pub loop-i-preserved : goal.loop-i-preserved
loop-i-preserved c =
    kept-naming-turn c.requires c.loop-i.invariant c.loop-i-test.true (sym c.newline.ensures ∙ c.if-newline.false) (sym c.named.ensures ∙ c.if-not-named.false) (sym c.found_name.ensures ∙ c.if-found_name.false) c.keep_name.ensures

pub returns : goal.returns
unfolding judged
returns c =
    let k = c.loop-i.invariant in
    names-judged c.requires k (naming-end _ _ _ _ _ k.naming c.loop-i-test.false)
