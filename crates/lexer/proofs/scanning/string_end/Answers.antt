use Rattle.lexer.proofs.EndTurns.{string-over, string-goes-on, string-open}
use mathlib.Core.Path.{refl, sym, ◌∙◌}
use native.Mathlib.Omega.{arith}
use Rattle.lexer.proofs.scanning.string_end.Goals as goal

pub loop-i-init : goal.loop-i-init
loop-i-init c = record { within = omega arith; rest = refl }

pub returns-then-text-i-eq34 : goal.returns-then-text-i-eq34
returns-then-text-i-eq34 c =
    sym (string-over _ _ _ c.loop-i-test.true c.if-text-i-eq34.true) ∙ c.loop-i.invariant.rest

pub loop-i-preserved : goal.loop-i-preserved
loop-i-preserved c =
    record {
      within = omega arith;
      rest = sym (string-goes-on _ _ _ c.loop-i-test.true c.if-text-i-eq34.false) ∙ c.loop-i.invariant.rest;
    }

pub returns : goal.returns
returns c = sym (string-open _ _ _ c.loop-i-test.false) ∙ c.loop-i.invariant.rest
