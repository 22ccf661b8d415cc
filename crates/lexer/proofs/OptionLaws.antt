-- What the code's options mean: one is given where the code has something, and another value stands in for none. Assumes nothing.
use Rattle.std.specs.Prelude.{is_some, unwrap_or, Some, None}
use Rattle.std.specs.Prelude as Std
use Rattle.lexer.specs.Base.{given, option_of}
use mathlib.Core.Option.{get_or}
use mathlib.Core.Path.{◌≡◌, refl}

module _ {X : Type 0} where
  pub is-given : (o : Std.Option X) → given (option_of o) ≡ is_some o
  unfolding given option_of
  is-given None = refl
  is-given (Some x) = refl

  pub given-or : (o : Std.Option X) (d : X) → unwrap_or o d ≡ get_or (option_of o) d
  unfolding option_of
  given-or None d = refl
  given-or (Some x) d = refl
