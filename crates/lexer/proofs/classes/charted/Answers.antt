-- The function `charted` meets its contract: the chart of what the definition gives for each of the 256 bytes computes to the table, and so holds at
-- each row and column. Assumes nothing.
use Rattle.lexer.proofs.TableLaws.{chart, chart-at}
use Rattle.lexer.specs.Base.{pick, among, bytes}
use Rattle.lexer.specs.Classes.{class, marks}
use Rattle.lexer.specs.Tables.{tabulated}
use Rattle.lexer.specs.declared.Class.{Class}
use borrow.Author.Rules.{rules}
use Rattle.lexer.proofs.classes.charted.Goals as goal

pub returns : goal.returns
unfolding chart tabulated class pick among bytes marks
returns c = chart-at class c.args.b Class.Newline (search rules)
