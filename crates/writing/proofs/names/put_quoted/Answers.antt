use Rattle.emit.proofs.PutLaws.{puts-as}
use Rattle.writing.proofs.PutWalks.{going-turn}
use Rattle.writing.proofs.QuotedBytes.{quoted-whole, quoted-run, quoted-byte, quoted-end, quoted-slash, quoted-no-slash, quoted-past, run-part}
use mathlib.Core.List.{◌++◌}
use mathlib.Core.Path.{ap, refl}
use native.Mathlib.Omega.{arith}
use Rattle.writing.proofs.names.put_quoted.Goals as goal

pub returns-then-b-eq10-clause-put : goal.returns-then-b-eq10-clause-put
returns-then-b-eq10-clause-put c =
    quoted-whole _ _ c.put-m.ensures (c.loop-i.invariant.1.finish _ _ (quoted-end _ _ c.loop-i-test.true c.if-b-eq10.true c.put-end.ensures refl refl))

pub loop-i-preserved-then-i-to : goal.loop-i-preserved-then-i-to
loop-i-preserved-then-i-to c =
    let run = c.plain_run-to.ensures in (
      omega (arith, c.if-i-to.true),
      going-turn c.loop-i.invariant.1 c.put_all-m.ensures.kept
          (λ after r. quoted-run run (puts-as c.put_all-m.ensures (λ behind. ap (λ t. t ++ behind) (run-part _ _ _ run)))),
    )

pub loop-i-preserved-then-b-ne92 : goal.loop-i-preserved-then-b-ne92
loop-i-preserved-then-b-ne92 c = (
  omega arith,
  going-turn c.loop-i.invariant.1 c.put_byte-m.ensures.kept
      (λ after r. quoted-byte _ _ c.loop-i-test.true c.if-b-eq10.false c.if-b-ne92.true c.put_byte-m.ensures),
)

pub returns-then-source-i-lt2-clause-put : goal.returns-then-source-i-lt2-clause-put
returns-then-source-i-lt2-clause-put c =
    quoted-whole _ _ c.put-m.ensures (c.loop-i.invariant.1.finish _ _ (quoted-no-slash _ _ c.loop-i-test.true (omega arith) c.if-b-ne92.false))

pub loop-i-preserved : goal.loop-i-preserved
loop-i-preserved c = (
  omega arith,
  going-turn c.loop-i.invariant.1 c.put-m-else-source-i-lt2.ensures.kept
      (λ after r. quoted-slash _ _ (omega arith) c.if-b-ne92.false _ c.meant.ensures c.put-m-else-source-i-lt2.ensures),
)

pub returns-clause-put : goal.returns-clause-put
returns-clause-put c = quoted-whole _ _ c.put-m.ensures (c.loop-i.invariant.1.finish _ _ (quoted-past _ _ c.loop-i-test.false))
