-- The function `text_is_byte` meets its contract. Assumes nothing.
use Rattle.assumptions.proofs.PartLaws.{same-alone}
use Rattle.lexer.proofs.NextBytes.{yielded}
use Rattle.lexer.specs.Base.{same}
use Rattle.assumptions.proofs.parts.text_is_byte.Goals as goal

pub returns-in_default : goal.returns-in_default
unfolding same
returns-in_default c = rw ((yielded _ _ _ c.next_byte.ensures).end c.in_default.is)

pub returns : goal.returns
returns c = same-alone _ _ _ _ _ _ _ ((yielded _ _ _ c.next_byte.ensures).byte _ _ c.in-Some.is).here (yielded _ _ _ c.next_byte-2.ensures) c.is_none.ensures
