-- An option that has nothing. Assumes nothing.
use Rattle.std.specs.Prelude.{None, Some, is_some}
use Rattle.std.specs.Prelude as Std
use mathlib.Core.Bool.{false, false≢true}
use mathlib.Core.Path.{◌≡◌, refl, sym}

pub no-some : {X : Type 0} (o : Std.Option X) → is_some o ≡ false → o ≡ None
no-some None e = refl
no-some (Some x) e = absurd (false≢true (sym e))
