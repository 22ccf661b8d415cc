-- The function `most_taxa` meets its contract. Assumes nothing.
use Rattle.reading.proofs.TaxaCounts.{count-rows, names-few}
use Rattle.reading.proofs.RowCounts.{count_most}
use native.Mathlib.Omega.{arith}
use Rattle.reading.proofs.sizes.most_taxa.Goals as goal

pub returns-in-None : goal.returns-in-None
returns-in-None c =
    let rows = c.row_count.ensures in (
      λ text front. omega (arith, count-rows text front c.args.held c.args.interleave c.in-None.is rows),
      omega (arith, rows, count_most c.args.interleave c.args.held.lines c.args.held.taxa 1048576 c.requires.0 c.requires.1),
    )

pub returns-in-Some : goal.returns-in-Some
returns-in-Some c =
    (λ text front. names-few text front c.args.held _ _ _ c.in-Some.is, c.requires.1)
