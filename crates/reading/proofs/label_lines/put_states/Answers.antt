use Rattle.lexer.specs.Base.{bytes}
use Rattle.reading.proofs.FewNames.{listing-end, listing_full, listing-newline, listing-turn}
use mathlib.Core.Path.{sym, ◌∙◌}
use Rattle.reading.proofs.label_lines.put_states.Goals as goal

pub returns-then-left-eq0 : goal.returns-then-left-eq0
returns-then-left-eq0 c = listing_full _ _ _ _ _ _ _ _ _ c.loop-j.invariant c.if-left-eq0.true

pub loop-j-preserved-then-newline : goal.loop-j-preserved-then-newline
loop-j-preserved-then-newline c =
    listing-newline _ _ _ _ _ _ _ _ _ c.loop-j.invariant c.loop-j-test.true (sym c.newline.ensures ∙ c.if-newline.true)

pub loop-j-preserved : goal.loop-j-preserved
unfolding bytes
loop-j-preserved c =
    listing-turn _ _ _ _ _ _ _ _ _ c.loop-j.invariant _ _ c.loop-j-test.true (sym c.newline.ensures ∙ c.if-newline.false) c.if-left-eq0.false c.put_named-m.ensures

pub returns : goal.returns
returns c = listing-end _ _ _ _ _ _ _ _ _ c.loop-j.invariant c.loop-j-test.false
