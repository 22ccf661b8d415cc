-- The function `lines_before` meets its contract: the lines are in order. Assumes nothing.
use Rattle.naming.proofs.OrderLaws.{parted-by}
use Rattle.naming.specs.Lines.{line_at}
use Rattle.naming.specs.Order.{before}
use Rattle.std.proofs.Common.{rules}
use Rattle.std.proofs.lemmas.List.Sorted.{IsPartitionPoint-from_clause}
use native.Mathlib.Omega.{arith}
use Rattle.naming.proofs.ordered.lines_before.Goals as goal

pub returns : goal.returns
returns c =
    let a = c.args in
    let point = IsPartitionPoint-from_clause (λ p. before (line_at a.source.now p) (line_at a.source.now a.at)) _ _ c.partition_point-before.ensures.partitioned
    (parted-by _ _ _ c.requires.1) (λ x r q k. search rules)
    in
    record { within = c.partition_point-before.ensures.bound; front = λ k h. point.0 k 0 (omega arith) h; behind = λ k h l. point.1 k 0 h l }
