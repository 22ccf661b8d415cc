use Rattle.slots.proofs.TrieLaws.{leads-same, leads-then, leads-behind, leads-past, ends-here, ends-blank, node-within}
use mathlib.Core.Path.{sym, ◌∙◌}
use native.Mathlib.Omega.{arith}
use Rattle.slots.proofs.trie.branch_of.Goals as goal

pub loop-from-init : goal.loop-from-init
loop-from-init c = λ head r. leads-same _ _ _ _ _

pub returns-then-not-leads_on : goal.returns-then-not-leads_on
returns-then-not-leads_on c =
    λ head r. (c.loop-from.invariant head r, ends-here c.start_of-node.ensures _ _ (sym c.leads_on.ensures ∙ c.if-not-leads_on.true))

pub overflow_add-result : goal.overflow_add-result
overflow_add-result c =
    let l = node-within c.loop-from.link c.start_of-node.result c.args.top (sym c.leads_on.ensures ∙ c.if-not-leads_on.false) in
    omega arith

pub returns-then-letter-code : goal.returns-then-letter-code
returns-then-letter-code c =
    λ head r.
    leads-then _ _ _ (c.loop-from.invariant head r)
    (leads-behind c.start_of-node.ensures (sym c.leads_on.ensures ∙ c.if-not-leads_on.false) head r c.start_of-letter.ensures c.if-letter-code.true c.requires)

pub returns-then-letter-eq0 : goal.returns-then-letter-eq0
returns-then-letter-eq0 c =
    λ head r. (c.loop-from.invariant head r, ends-blank c.start_of-node.ensures _ _ c.start_of-letter.ensures c.if-letter-eq0.true)

pub overflow_add-link : goal.overflow_add-link
overflow_add-link c =
    let l = node-within c.loop-from.link c.start_of-node.result c.args.top (sym c.leads_on.ensures ∙ c.if-not-leads_on.false) in
    omega arith

pub loop-from-smaller : goal.loop-from-smaller
loop-from-smaller c =
    let l = node-within c.loop-from.link c.start_of-node.result c.args.top (sym c.leads_on.ensures ∙ c.if-not-leads_on.false) in
    omega arith

pub loop-from-preserved : goal.loop-from-preserved
loop-from-preserved c =
    λ head r.
    leads-then _ _ _ (c.loop-from.invariant head r)
    (leads-past c.start_of-node.ensures (sym c.leads_on.ensures ∙ c.if-not-leads_on.false) head r c.start_of-letter.ensures c.if-letter-code.false c.if-letter-eq0.false)
