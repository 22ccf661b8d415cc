-- Faults that a call gave and that are answered as they are. Assumes nothing.
use Rattle.std.proofs.lemmas.Result.{err_from_is_err_and}
use Rattle.std.specs.Prelude.{Err, Result, IsErrAnd}
use Prim.Native.Nat.{ℕ}
use Rattle.lexer.specs.declared.Fault.{Fault}
use mathlib.Core.Path.{◌≡◌, refl}

-- What `?` answers.
pub given-on : {A : Type 0} {f : Fault ℕ} (r : Result A (Fault ℕ)) → IsErrAnd r (λ y. y ≡ f) → r ≡ Err f
given-on r h = let p = err_from_is_err_and r h in rw (p.1, p.2) refl
