-- The function `put_plain` meets its contract: three pieces, one behind another. Assumes nothing.
use Rattle.emit.proofs.PutLaws.{puts-as, puts_then}
use Rattle.lexer.specs.Base.{bytes}
use Rattle.reading.proofs.CharacterPuts.{plain-spelled}
use Rattle.reading.proofs.plain.put_plain.Goals as goal

pub returns : goal.returns
unfolding bytes
returns c =
    puts-as
    (puts_then c.put_whole-m.ensures.puts (puts_then c.put_digits-m.ensures.puts c.put_bare.ensures.puts))
    (plain-spelled _ _)
