-- The function `free_sign` meets its contract. Assumes nothing.
use Rattle.block.specs.Format.{valid_symbols}
use Rattle.lexer.specs.Base.{bytes}
use Rattle.writing.proofs.signs.free_sign.Goals as goal

pub returns : goal.returns
unfolding valid_symbols bytes
returns c = c.first_free.ensures
