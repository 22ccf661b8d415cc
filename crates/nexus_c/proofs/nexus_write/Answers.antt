-- The function nexus_write meets its contract: each answer of the write call, in numbers. Assumes nothing.
use Rattle.nexus_c.proofs.AnswerNumbers.{length-numbers, refusal-numbers}
use Rattle.nexus_c.proofs.nexus_write.Goals as goal

pub returns-in-Ok : goal.returns-in-Ok
returns-in-Ok c = let e = c.write.ensures in let a = length-numbers _ _ e.answer _ c.in-Ok.is in record { result = a.result; number = a.number; left = e.left }

pub returns-in-Err : goal.returns-in-Err
returns-in-Err c = let e = c.write.ensures in let a = refusal-numbers _ _ e.answer _ _ _ c.in-Err.is c.refusal_number.ensures in record { result = a.result; number = a.number; left = e.left }
