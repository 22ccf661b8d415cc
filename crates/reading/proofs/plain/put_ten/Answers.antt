-- The function `put_ten` meets its contract: nothing of the ten has room, or all have. Assumes nothing.
use Rattle.reading.proofs.CharacterPuts.{counted-past}
use Rattle.reading.proofs.TenPlain.{ten-size}
use Rattle.reading.proofs.plain.put_ten.Goals as goal

pub returns-then-buffer-n : goal.returns-then-buffer-n
returns-then-buffer-n c =
    let size = c.plain_size.ensures.value in
    counted-past _ _ _ _ _ c.if-buffer-n.true (λ behind. rw size (ten-size c.args.number c.requires.1 c.requires.2 c.args.ordering behind)) c.further.ensures
