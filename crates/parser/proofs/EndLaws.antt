-- The matrix at the end of ASSUMPTIONS: with other types it reads as before but for them, and fits as before. Assumes nothing.
use Rattle.std.specs.Prelude.{Some, None, Option}
use Prim.Native.Nat.{ℕ}
use Rattle.lexer.specs.Base.{option_of}
use Rattle.block.specs.Blocks.{matrix_typed}
use Rattle.commands.specs.StateHeld.{Reader, Retypes, matrix_of, retyped_held, set_of, types_of}
use Rattle.commands.specs.declared.state.Held.{Held}
use Rattle.block.specs.declared.model.CharacterOrdering.{CharacterOrdering}
use mathlib.Core.Bool.{Bool}
use mathlib.Core.List.{List}
use mathlib.Core.Option.{some}
use mathlib.Core.Path.{◌≡◌, ap}

module _ (m : Reader) (text work : List ℕ) (matrix : Option Held) (default : Option CharacterOrdering) (typed : Bool) where
  pub none-typed : matrix ≡ None → matrix_of m text work None ≡ matrix_typed (option_of default) (set_of m text work matrix typed) (matrix_of m text work matrix)
  unfolding matrix_of matrix_typed
  none-typed e = rw e

  pub read-typed : Retypes m → (h : Held) → matrix ≡ Some h
      → matrix_of m text work (Some (retyped_held h default typed)) ≡ matrix_typed (option_of default) (set_of m text work matrix typed) (matrix_of m text work matrix)
  unfolding matrix_of matrix_typed set_of types_of
  read-typed r h e = rw e (ap some (r.retyped h default typed))
