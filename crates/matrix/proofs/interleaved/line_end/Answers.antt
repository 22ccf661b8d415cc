use Rattle.matrix.proofs.LineLaws.{within-start, within-turn, within-newline, within_end}
use Rattle.lexer.proofs.Basics.{by-test}
use borrow.Author.Tests.{leb-true, leb-false}
use lib.Dec.{leb}
use native.Mathlib.Omega.{arith}
use mathlib.Core.Path.{◌≡◌, sym, ◌∙◌}
use Rattle.matrix.proofs.interleaved.line_end.Goals as goal

pub returns-then-newline : goal.returns-then-newline
returns-then-newline c = within-newline c.loop-j.invariant c.loop-j-test.true (sym c.newline.ensures ∙ c.if-newline.true)

pub loop-j-preserved : goal.loop-j-preserved
loop-j-preserved c = within-turn c.loop-j.invariant c.loop-j-test.true (sym c.newline.ensures ∙ c.if-newline.false)

pub returns : goal.returns
returns c =
    by-test (leb c.args.i c.args.to)
    (λ t. let within = leb-true c.args.i c.args.to t in let last : c.max.result ≡ c.loop-j.j = omega (arith, c.max.ensures, c.loop-j.auto.j-end within) in rw last (within_end c.loop-j.invariant c.loop-j-test.false))
    (λ f. let behind = leb-false c.args.i c.args.to f in let none : c.max.result ≡ c.args.i = omega (arith, c.max.ensures) in rw none (within_end within-start (omega (arith, behind))))
