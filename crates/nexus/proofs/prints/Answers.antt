-- The function prints meets its contract: input that is too long is refused, and of other input what the read call answers is printed. Assumes nothing.
use Rattle.nexus.proofs.PrintLaws.{long-prints, length-prints, refusal-prints}
use borrow.Author.Rules.{rules}
use Rattle.nexus.proofs.prints.Goals as goal

pub returns-then-input-gt1024 : goal.returns-then-input-gt1024
returns-then-input-gt1024 c =
    long-prints _ c.if-input-gt1024.true _ _ c.put_refusal.ensures

pub returns-in-Ok : goal.returns-in-Ok
returns-in-Ok c =
    length-prints _ c.if-input-gt1024.false _ _ _ _ (search rules) c.requires _ c.read.ensures _ c.in-Ok.is

pub returns-in-Err : goal.returns-in-Err
returns-in-Err c =
    refusal-prints _ c.if-input-gt1024.false _ _ _ _ (search rules) c.requires _ c.read.ensures _ _ c.in-Err.is _ c.refusal_number.ensures _ _ c.put_refusal-in-Err.ensures
