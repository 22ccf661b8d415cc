-- The function `state` meets its contract. A turn passes one symbol that is another, and keeps what is sought. Assumes nothing.
use Rattle.block.proofs.SymbolWalk.{Seeking}
use Rattle.block.specs.Formats.{meant}
use Rattle.block.proofs.formats.Format.state.Given as goal

abbrev pub invariant-loop-i : goal.invariant-loop-i
invariant-loop-i l = Seeking (meant l.self) l.symbol l.i
