use Rattle.lexer.proofs.CommentBlocks.{commenting-start, commenting-closes, commenting-ahead, commenting-blocks}
use Rattle.lexer.proofs.EndTurns.{comment-over, comment-opens, comment-goes-on, comment-open}
use mathlib.Core.Path.{sym, ◌∙◌}
use native.Mathlib.Omega.{arith}
use Rattle.lexer.proofs.scanning.comment_end.Goals as goal

pub loop-i-init : goal.loop-i-init
loop-i-init c = commenting-blocks _ _ _ _ _ _ (commenting-start _ _ c.requires) c.comment_blocks-first.ensures

pub returns-then-depth-eq0 : goal.returns-then-depth-eq0
returns-then-depth-eq0 c = sym (comment-over _ _ _ c.loop-i-test.true c.if-b-eq93.true _ c.if-depth-eq0.true) ∙ c.loop-i.invariant.rest

pub loop-i-smaller-then-b-eq93 : goal.loop-i-smaller-then-b-eq93
loop-i-smaller-then-b-eq93 c =
    let behind = commenting-closes _ _ _ _ c.loop-i.invariant c.loop-i-test.true c.if-b-eq93.true c.if-depth-eq0.false in
    let ahead = commenting-ahead _ _ _ _ _ _ behind c.comment_blocks-next.ensures in
    omega arith

pub loop-i-preserved-then-b-eq93 : goal.loop-i-preserved-then-b-eq93
loop-i-preserved-then-b-eq93 c =
    let behind = commenting-closes _ _ _ _ c.loop-i.invariant c.loop-i-test.true c.if-b-eq93.true c.if-depth-eq0.false in
    commenting-blocks _ _ _ _ _ _ behind c.comment_blocks-next.ensures

pub loop-i-preserved-then-b-eq91 : goal.loop-i-preserved-then-b-eq91
loop-i-preserved-then-b-eq91 c =
    record {
      within = omega arith;
      deep = omega arith;
      rest = sym (comment-opens _ _ _ c.loop-i-test.true c.if-b-eq91.true _) ∙ c.loop-i.invariant.rest;
    }

pub loop-i-preserved : goal.loop-i-preserved
loop-i-preserved c =
    record {
      within = omega arith;
      deep = omega arith;
      rest = sym (comment-goes-on _ _ _ c.loop-i-test.true c.if-b-eq91.false c.if-b-eq93.false _) ∙ c.loop-i.invariant.rest;
    }

pub returns : goal.returns
returns c = sym (comment-open _ _ _ c.loop-i-test.false _) ∙ c.loop-i.invariant.rest
