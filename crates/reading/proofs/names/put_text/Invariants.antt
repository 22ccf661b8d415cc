-- The function `put_text` meets its contract: a turn puts one byte of what is left of the name's text. The measure is what is left of the text. Assumes nothing.
use Prim.Native.Nat.{◌-◌}
use Rattle.lexer.specs.Bytes.{left}
use Rattle.reading.proofs.NamePuts.{text_piece}
use Rattle.reading.proofs.PutWalks.{Putting}
use lib.ListN.{length}
use Rattle.reading.proofs.names.put_text.Given as goal

abbrev pub invariant-loop-b : goal.invariant-loop-b
invariant-loop-b l = Putting l.initial.buffer l.n (text_piece (left l.text l.initial.d)) l.buffer l.m (text_piece (left l.text l.d))

abbrev pub decreases-loop-b : goal.decreases-loop-b
decreases-loop-b l = length l.text - l.d.at
