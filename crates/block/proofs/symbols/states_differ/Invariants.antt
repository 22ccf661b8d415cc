-- The function `states_differ` meets its contract. A turn passes one symbol that no later one is equal to. Assumes nothing.
use Rattle.block.proofs.SymbolsDiffer.{Passing}
use Rattle.block.specs.Format.{all_differ}
use Rattle.block.specs.Formats.{meant}
use Rattle.block.proofs.symbols.states_differ.Given as goal

abbrev pub invariant-loop-i : goal.invariant-loop-i
invariant-loop-i l = Passing (all_differ (meant l.f)) l.f.count l.f.symbols (all_differ (meant l.f) (meant l.f).symbols) l.i
