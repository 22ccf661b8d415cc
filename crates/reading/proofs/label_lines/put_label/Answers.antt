-- The function `put_label` meets its contract: there is no label, or it is that of a word. Assumes nothing.
use Rattle.emit.proofs.PutLaws.{puts-as}
use Rattle.lexer.specs.Base.{bytes}
use Rattle.reading.proofs.CharacterPuts.{label-none, label-some}
use Rattle.reading.proofs.label_lines.put_label.Goals as goal

pub returns-then-slot-eq0 : goal.returns-then-slot-eq0
unfolding bytes
returns-then-slot-eq0 c = puts-as c.put_all.ensures (λ behind. label-none _ _ _ behind c.if-slot-eq0.true)

pub returns : goal.returns
unfolding bytes
returns c = puts-as c.put_named.ensures (λ behind. label-some _ _ _ c.if-slot-eq0.false behind)
