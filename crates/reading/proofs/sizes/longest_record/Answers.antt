-- The function `longest_record` meets its contract: what the record of names and characters measures, and the most that the cells take. Assumes nothing.
use Rattle.reading.proofs.HeldRows.{characters-few, order-few, tokens-taken}
use Rattle.reading.proofs.RecordSizes.{as-bare, bare-fits, bytes-few, cells-few, longest-held}
use native.Mathlib.Omega.{arith}
use Rattle.reading.proofs.sizes.longest_record.Goals as goal

pub slice_bounds-format_of-end : goal.slice_bounds-format_of-end
slice_bounds-format_of-end c = tokens-taken _ _ _ _ _ c.requires

pub most_taxa-requires : goal.most_taxa-requires
most_taxa-requires c = let few = order-few _ _ _ _ _ c.requires in (few.1, few.2)

pub overflow_mul-cells : goal.overflow_mul-cells
overflow_mul-cells c =
    omega (arith, cells-few c.most_taxa.ensures.1 (characters-few _ _ _ _ _ c.requires))

pub put_record-size-requires : goal.put_record-size-requires
put_record-size-requires c = bare-fits _ _ _ c.bare.ensures c.requires

pub overflow_mul-cells-2 : goal.overflow_mul-cells-2
overflow_mul-cells-2 c =
    omega (arith, bytes-few (cells-few c.most_taxa.ensures.1 (characters-few _ _ _ _ _ c.requires)) c.widest.ensures.1)

pub returns : goal.returns
returns c =
    let a = c.args in
    longest-held a.text.now a.work.now a.count a.held c.requires c.format_of-format.result c.format_of-format.ensures _ _ _ _ _
    c.most_taxa.ensures.0 c.states.ensures.0 c.widest.ensures.0 (as-bare a.held c.bare.ensures c.put_record-size.ensures) c.further.ensures.0
