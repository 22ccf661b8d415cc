-- The function `byte_ahead` meets its contract. Assumes nothing.
use Rattle.lexer.proofs.NextBytes.{yielded}
use Rattle.lexer.proofs.label.byte_ahead.Goals as goal

pub returns-in-Some : goal.returns-in-Some
returns-in-Some c =
    let y = (yielded _ _ _ c.next_byte.ensures).byte _ _ c.in-Some.is in
    rw y.here

pub returns-in-None : goal.returns-in-None
returns-in-None c =
    let y = (yielded _ _ _ c.next_byte.ensures).end c.in-None.is in
    rw y
