-- The function `put_whole_set` meets its contract: a blank, the letter and the states. Assumes nothing.
use Rattle.reading.proofs.WholePuts.{set-digits, whole-put}
use mathlib.Core.Path.{refl}
use Rattle.reading.proofs.sets.put_whole_set.Goals as goal

pub put_digits-next-requires : goal.put_digits-next-requires
put_digits-next-requires c = set-digits _ _ _ _ c.requires

pub returns : goal.returns
returns c =
    rw c.row_behind.ensures (whole-put _ _ _ _ c.requires c.set_letter-letter.ensures c.put_blank-at.ensures c.put_digits-next.ensures refl)
