-- The function `put_some` meets its contract. A turn puts one byte more of the list. Assumes nothing.
use Rattle.emit.specs.Puts.{Puts}
use lib.ListN.{take}
use mathlib.Core.List.{◌++◌}
use Rattle.emit.proofs.put_some.Given as goal

abbrev pub invariant-loop-b : goal.invariant-loop-b
invariant-loop-b l = Puts l.initial.buffer l.n (λ behind. take l.b-index l.bytes ++ behind) l.buffer l.at
