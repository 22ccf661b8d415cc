-- The function `put_state_labels` meets its contract: there are none, or so many from a word on. Assumes nothing.
use Rattle.emit.proofs.PutLaws.{puts-as, puts_then}
use Rattle.lexer.specs.Base.{bytes}
use Rattle.reading.proofs.CharacterPuts.{states-none, states-some}
use Rattle.reading.proofs.label_lines.put_state_labels.Goals as goal

pub returns-then-slot-eq0 : goal.returns-then-slot-eq0
unfolding bytes
returns-then-slot-eq0 c = puts-as c.put_all.ensures (λ behind. states-none _ _ _ behind c.if-slot-eq0.true)

pub returns : goal.returns
unfolding bytes
returns c =
    puts-as (puts_then c.put_number-m.ensures c.put_states.ensures) (λ behind. states-some _ _ _ c.if-slot-eq0.false _ c.count_names-count.ensures behind)
