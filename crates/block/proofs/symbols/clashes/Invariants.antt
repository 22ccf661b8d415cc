-- The function `clashes` meets its contract. A turn passes one symbol that is another. Assumes nothing.
use Rattle.block.proofs.SymbolsDiffer.{Passing}
use Rattle.block.specs.Format.{clashes}
use Rattle.block.specs.Formats.{meant}
use lib.ListN.{drop}
use Rattle.block.proofs.symbols.clashes.Given as goal

abbrev pub invariant-loop-i : goal.invariant-loop-i
invariant-loop-i l = Passing (clashes (meant l.f) l.a) l.f.count l.f.symbols (clashes (meant l.f) l.a (drop l.from (meant l.f).symbols)) l.i
