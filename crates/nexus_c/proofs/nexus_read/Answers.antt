-- The function nexus_read meets its contract: each answer of the read call, in numbers. Assumes nothing.
use Rattle.nexus_c.proofs.AnswerNumbers.{length-numbers, refusal-numbers}
use Rattle.nexus_c.proofs.nexus_read.Goals as goal

pub returns-in-Ok : goal.returns-in-Ok
returns-in-Ok c =
    let e = c.read.ensures in
    record { answer = length-numbers _ _ e.answer _ c.in-Ok.is; left = e.left; size = e.size }

pub returns-in-Err : goal.returns-in-Err
returns-in-Err c =
    let e = c.read.ensures in
    record { answer = refusal-numbers _ _ e.answer _ _ _ c.in-Err.is c.refusal_number.ensures; left = e.left; size = e.size }
