-- The function `all-valid` meets its contract. A turn passes one symbol that is valid. Assumes nothing.
use Rattle.block.proofs.SymbolsDiffer.{Passing}
use Rattle.block.specs.Format.{all_valid}
use lib.ListN.{take}
use Rattle.block.proofs.symbols.all_valid.Given as goal

abbrev pub invariant-loop-i : goal.invariant-loop-i
invariant-loop-i l = Passing all_valid l.count l.symbols (all_valid (take l.count l.symbols)) l.i
