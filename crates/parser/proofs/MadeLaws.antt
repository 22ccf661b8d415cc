-- What is promised of a step over a command: where nothing is stored, and in other words. Assumes nothing.
use Rattle.std.specs.Prelude.{Result}
use Prim.Native.Nat.{ℕ}
use Rattle.block.specs.Blocks as B
use Rattle.block.specs.Outcome.{Outcome}
use Rattle.commands.specs.StatePlaced.{CommandPlaced, StatePlaced, SteppedPlaced}
use Rattle.commands.specs.Stepping.{Made, answered, step_held}
use Rattle.commands.specs.declared.state.State.{State}
use Rattle.lexer.specs.declared.Fault.{Fault}
use lib.ListN.{length, take}
use mathlib.Core.List.{List}
use mathlib.Core.Path.{◌≡◌, refl, subst}

-- The right answer, with work memory as it was.
module _ (text work : List ℕ) (count head to : ℕ) (s : State) (r : Result State (Fault ℕ)) where
  pub kept-made : {right : Outcome B.State} → step_held text work count r ≡ right
      → (CommandPlaced (take count work) head to → StatePlaced text (take count work) (length work) s → SteppedPlaced text (take count work) (length work) r)
      → Made text work work count head to s r right
  kept-made e p = record { size = refl; kept = refl; step = answered e; placed = p }

module _ (text before after : List ℕ) (count head to : ℕ) (s : State) (r : Result State (Fault ℕ)) where
  pub made_as : {right meant : Outcome B.State} → right ≡ meant → Made text before after count head to s r right → Made text before after count head to s r meant
  made_as e m = subst (Made text before after count head to s r) e m
