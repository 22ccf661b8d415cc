use Rattle.writing.proofs.MembersPut.{members-end, members-none, members-turn}
use Rattle.writing.proofs.SignsRead.{sign-ahead}
use mathlib.Core.Path.{sym, ◌∙◌}
use native.Mathlib.Omega.{arith}
use Rattle.writing.proofs.cells.put_members.Goals as goal

pub returns-then-byte_or_zero-ne46 : goal.returns-then-byte_or_zero-ne46
returns-then-byte_or_zero-ne46 c =
    (omega (arith, sign-ahead _ _ _ _ c.sign_at-s.ensures), members-end _ _ _ _ _ _ _ _ c.loop-at.invariant.2 _ c.sign_at-s.ensures _ _ c.put-m.ensures (λ e. c.if-byte_or_zero-ne46.true (c.byte_or_zero.ensures ∙ e)))

pub loop-at-preserved : goal.loop-at-preserved
loop-at-preserved c = (
  omega (arith, sign-ahead _ _ _ _ c.sign_at-s.ensures),
  c.put-m.ensures.kept ∙ c.loop-at.invariant.1,
  members-turn _ _ _ _ _ _ _ _ c.loop-at.invariant.2 _ c.sign_at-s.ensures _ _ c.put-m.ensures (sym c.byte_or_zero.ensures ∙ c.if-byte_or_zero-ne46.false),
)

pub returns : goal.returns
returns c = (c.loop-at.invariant.0, members-none _ _ _ _ _ _ _ _ c.loop-at.invariant.2 c.loop-at-test.false)
