-- The function `put_set` meets its contract: the letter of its kind, and its states. Assumes nothing.
use Rattle.reading.proofs.SetPieces.{brace-put, parenthesis-put}
use Rattle.reading.proofs.sets.put_set.Goals as goal

pub returns-in-Brace : goal.returns-in-Brace
returns-in-Brace c =
    brace-put _ _ c.put_members.ensures c.in-Brace.is c.put-braced.ensures

pub returns-in-Parenthesis : goal.returns-in-Parenthesis
returns-in-Parenthesis c =
    parenthesis-put _ _ c.put_members-in-Parenthesis.ensures c.in-Parenthesis.is c.put-at.ensures
