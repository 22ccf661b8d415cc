use Rattle.reading.proofs.HeldRows.{order-at, order-few, tokens-taken, words-end, words-over, words-start, words-turn}
use mathlib.Core.Path.{refl, ◌∙◌}
use native.Mathlib.Omega.{arith}
use Rattle.reading.proofs.taxa.put_declared.Goals as goal

pub order_place-order-requires : goal.order_place-order-requires
order_place-order-requires c = order-few _ _ _ _ _ c.requires

pub loop-k-init : goal.loop-k-init
loop-k-init c =
    (refl, words-start _ _ _ _ c.args.matrix.held c.requires _ _ _ _ _ _ c.order_place-order.ensures)

pub slice_bounds-word_ahead-end : goal.slice_bounds-word_ahead-end
slice_bounds-word_ahead-end c = tokens-taken _ _ _ _ _ c.requires

pub returns-in_default : goal.returns-in_default
returns-in_default c =
    record {
      kept = c.loop-k.invariant.0;
      put = words-over _ _ _ _ c.args.matrix.held c.requires _ _ _ _ _ _ c.order_place-order.ensures _ _ c.loop-k.invariant.1 (c.word_ahead.ensures.none c.in_default.is);
    }

pub overflow_add-order : goal.overflow_add-order
overflow_add-order c =
    omega (arith, order-at _ _ _ _ _ c.requires _ _ c.order_place-order.ensures c.loop-k-test.true)

pub loop-k-preserved : goal.loop-k-preserved
loop-k-preserved c = (
  c.put_taxon-m.ensures.kept ∙ c.loop-k.invariant.0,
  words-turn _ _ _ _ c.args.matrix.held c.requires _ _ _ _ _ _ c.order_place-order.ensures _ _ c.loop-k.invariant.1 _ (c.word_ahead.ensures.some _ c.in-Some.is) c.loop-k-test.true _ c.start_of-row.ensures c.put_taxon-m.ensures.put,
)

pub returns : goal.returns
returns c =
    record { kept = c.loop-k.invariant.0; put = words-end _ _ _ _ c.args.matrix.held c.requires _ _ _ _ _ _ c.order_place-order.ensures _ _ c.loop-k.invariant.1 c.loop-k-test.false }
