use Rattle.lexer.proofs.ListLaws.{some-within}
use Rattle.writing.proofs.LinePlaces.{next_here, next-on}
use mathlib.Core.Path.{sym, ◌∙◌}
use native.Mathlib.Omega.{arith}
use Rattle.writing.proofs.characters.next_at.Goals as goal

pub loop-i-preserved : goal.loop-i-preserved
loop-i-preserved c =
    let first = sym c.byte_or_zero.ensures ∙ c.loop-i-test.true in
    let within = some-within c.args.source.now c.loop-i.i (λ z. omega arith) in
    λ r p. c.loop-i.invariant r (next-on _ _ within first _ c.behind_line-i.ensures.found r p)

pub returns : goal.returns
returns c = c.loop-i.invariant _ (next_here _ _ (λ e. c.loop-i-test.false (c.byte_or_zero.ensures ∙ e)))
