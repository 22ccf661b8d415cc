-- The function `unspaced` meets its contract. A turn passes one byte of the text, and keeps which symbols there are. The measure is what is left of the text. Assumes nothing.
use Prim.Native.Nat.{◌-◌}
use Rattle.block.proofs.SymbolText.{Unspacing}
use lib.ListN.{length}
use Rattle.block.proofs.symbols.unspaced.Given as goal

abbrev pub invariant-loop-b : goal.invariant-loop-b
invariant-loop-b l = Unspacing l.text l.initial.d l.bytes l.count l.d

abbrev pub decreases-loop-b : goal.decreases-loop-b
decreases-loop-b l = length l.text - l.d.at
