-- What was declared or read is there where the code has it. Assumes nothing.
use Prim.Native.Nat.{ℕ}
use Rattle.block.specs.declared.format_options.Options.{Options}
use Rattle.commands.specs.StateHeld.{Reader, matrix_of, names_in, style_of}
use Rattle.commands.specs.declared.state.Held.{Held}
use Rattle.lexer.specs.Base.{given, option_of}
use Rattle.std.specs.Prelude.{Option, Some, None, is_some}
use mathlib.Core.Bool.{Bool, true, false, not, true≢false, false≢true}
use mathlib.Core.List.{List}
use mathlib.Core.Path.{◌≡◌, refl}

pub given_if_some : {A : Type 0} (o : Option A) → is_some o ≡ given (option_of o)
unfolding given option_of
given_if_some None = refl
given_if_some (Some x) = refl

pub none_if_not : {A : Type 0} (o : Option A) → is_some o ≡ false → o ≡ None
none_if_not None e = refl
none_if_not (Some x) e = absurd (true≢false e)

module _ (text work : List ℕ) where
  pub names_if_some : (o : Option (ℕ × ℕ)) → is_some o ≡ given (names_in text work o)
  unfolding given names_in
  names_if_some None = refl
  names_if_some (Some (from, to)) = refl

  pub style_if_some : (o : Option Options) → is_some o ≡ given (style_of text work o)
  unfolding given style_of
  style_if_some None = refl
  style_if_some (Some x) = refl

  pub matrix_if_some : (m : Reader) (o : Option Held) → is_some o ≡ given (matrix_of m text work o)
  unfolding given matrix_of
  matrix_if_some m None = refl
  matrix_if_some m (Some h) = refl

  pub matrix-if_none : (m : Reader) (o : Option Held) (none : Bool) → is_some o ≡ not none → none ≡ not (given (matrix_of m text work o))
  unfolding given matrix_of
  matrix-if_none m None true e = refl
  matrix-if_none m None false e = absurd (false≢true e)
  matrix-if_none m (Some h) true e = absurd (true≢false e)
  matrix-if_none m (Some h) false e = refl
