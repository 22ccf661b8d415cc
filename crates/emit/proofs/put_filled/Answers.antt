-- The function `put_filled` meets its contract: what is put is the front of the scratch, which holds the digits. Assumes nothing.
use Rattle.emit.proofs.DigitsStored.{digits-front}
use Rattle.emit.proofs.PutLaws.{puts-as}
use Rattle.emit.proofs.put_filled.Goals as goal
use mathlib.Core.List.{◌++◌}
use mathlib.Core.Path.{refl, ap}
use native.Mathlib.Omega.{arith}

pub returns : goal.returns
returns c =
    let d = c.put_digits-end in
    puts-as c.put_all.ensures (λ behind. ap (λ l. l ++ behind) (digits-front _ _ _ _ (omega arith) refl d.ensures.puts))
