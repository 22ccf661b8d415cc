-- The function `all_cells` meets its contract: it tests what the definition does. Assumes nothing.
use Rattle.std.proofs.lemmas.Iterator.Search.{all_from_yields_List}
use Rattle.std.proofs.lemmas.Iterator.{YieldsList-from_slice}
use Rattle.lexer.specs.PlainWords.{part}
use Rattle.matrix.specs.RowShape.{all_coded}
use Rattle.std.proofs.Common.{rules, tests}
use Rattle.matrix.proofs.cells.all_cells.Goals as goal

pub returns : goal.returns
unfolding all_coded
returns c = all_from_yields_List _ _ _ _ c.all.ensures.ran (YieldsList-from_slice (part c.args.text.now c.args.from c.args.end) cc) (λ x b q k. search (rules, tests))
