-- The function `rows_of` meets its contract: as the codes of the format have it read, sequential or interleaved. Assumes nothing.
use Rattle.block.proofs.FormatCodes.{symbols-few}
use Rattle.block.specs.Formats.{meant}
use Rattle.matrix.proofs.RowsTaken.{pages-taken, sequence-taken}
use lib.ListN.{length-map}
use native.Mathlib.Omega.{arith}
use Rattle.matrix.proofs.rows.rows_of.Goals as goal

pub returns-then-format : goal.returns-then-format
unfolding meant
returns-then-format c =
    -- The format has at most as many symbols as its array.
    let whole = c.well_formed.1.1.1.1.1.1.1.1.0.1.1.1.0.1.0.1 in
    let few = symbols-few c.args.format 74 (omega (arith, whole, length-map c.args.format.symbols (λ v. v))) in
    pages-taken _ _ _ _ _ _ _ _ _ _ _ c.codes-table.ensures few c.requires c.if-format.true c.interleaved.ensures

pub returns : goal.returns
unfolding meant
returns c =
    let whole = c.well_formed.1.1.1.1.1.1.1.1.0.1.1.1.0.1.0.1 in
    let few = symbols-few c.args.format 74 (omega (arith, whole, length-map c.args.format.symbols (λ v. v))) in
    sequence-taken _ _ _ _ _ _ _ _ _ _ _ c.codes-table.ensures few c.requires c.if-format.false c.sequential.ensures
