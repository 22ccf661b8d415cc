-- The function `put_symbols` meets its contract. Assumes nothing.
use Rattle.block.proofs.SymbolsDiffer.{states-taken}
use Rattle.emit.proofs.PutLaws.{puts-as}
use mathlib.Core.List.{◌++◌}
use mathlib.Core.Path.{ap}
use Rattle.reading.proofs.spelling.put_symbols.Goals as goal

pub returns : goal.returns
returns c =
    puts-as c.put_all.ensures (λ behind. ap (λ l. l ++ behind) (states-taken c.args.format _ c.states.ensures.0))
