-- The function `put_name` meets its contract: a name that is told by its bytes is measured by their count or put byte by byte, any other by its text.
-- Assumes nothing.
use Rattle.emit.proofs.PutLaws.{puts-as}
use Rattle.lexer.proofs.WordsTold.{stop-told}
use Rattle.reading.proofs.NamePuts.{name-past, plain-name, text-name}
use Rattle.reading.proofs.names.put_name.Goals as goal

pub returns-then-buffer-n : goal.returns-then-buffer-n
returns-then-buffer-n c =
    let word = stop-told _ _ _ c.word_stop-end.ensures c.if-start-end.true in
    puts-as (name-past _ _ _ _ _ _ word c.if-buffer-n.true c.further.ensures) (λ behind. plain-name _ _ _ _ _ behind c.start_of-start.ensures word)

pub put_bytes-requires : goal.put_bytes-requires
put_bytes-requires c = (stop-told _ _ _ c.word_stop-end.ensures c.if-start-end.true).within

pub returns-then-start-end : goal.returns-then-start-end
returns-then-start-end c = puts-as c.put_bytes.ensures (λ behind. plain-name _ _ _ _ _ behind c.start_of-start.ensures (stop-told _ _ _ c.word_stop-end.ensures c.if-start-end.true))

pub returns : goal.returns
returns c = puts-as c.put_text.ensures (λ behind. text-name _ _ _ _ _ behind c.start_of-start.ensures c.text_start.ensures)
