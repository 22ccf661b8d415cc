-- The function `put_bytes` meets its contract: a turn puts one byte. The measure is what is left of the bytes. Assumes nothing.
use Rattle.lexer.specs.PlainWords.{part}
use Rattle.reading.proofs.NamePuts.{text_piece}
use Rattle.reading.proofs.PutWalks.{Putting}
use Rattle.reading.proofs.names.put_bytes.Given as goal

abbrev pub invariant-loop-i : goal.invariant-loop-i
invariant-loop-i l = Putting l.initial.buffer l.n (text_piece (part l.text l.from l.end)) l.buffer l.m (text_piece (part l.text l.i l.end))
