-- The step over a command by the block that is open, one block at a time. Assumes nothing.
use Rattle.std.specs.Prelude.{None, Option}
use Prim.Native.Nat.{ℕ}
use Rattle.lexer.specs.Base.{option_of}
use Rattle.block.specs.Blocks as B
use Rattle.block.specs.Blocks.{assumption_step, data_end, data_step, end_block, in_phase, in_trees, inner_step, matrix_typed, outside, taxa_end, taxa_step}
use Rattle.block.specs.Commands.{words}
use Rattle.block.specs.Outcome.{Outcome, done, then}
use Rattle.commands.specs.StateHeld.{Reader, data_of, matrix_of, names_in, phase_of, set_of}
use Rattle.commands.specs.StatePlaced.{DataPlaced, NamesPlaced, PhasePlaced}
use Rattle.commands.specs.declared.state.Data.{Data}
use Rattle.commands.specs.declared.state.Phase.{Phase}
use Rattle.commands.specs.declared.state.State.{State}
use Rattle.lexer.specs.Words.{Numbered}
use Rattle.block.specs.declared.model.CharacterOrdering.{CharacterOrdering}
use Rattle.commands.specs.declared.state.Held.{Held}
use mathlib.Core.Bool.{Bool, true}
use mathlib.Core.List.{List}
use mathlib.Core.Path.{◌≡◌, subst}

-- END.
module _ (m : Reader) (text work : List ℕ) (d : Data) (matrix : Option Held) (phase : Phase) (s : B.State) where
  pub ends-outside : phase ≡ Phase.Outside → done s ≡ end_block s (phase_of m text work d matrix phase)
  unfolding end_block phase_of
  ends-outside e = rw e

  pub ends-taxa : (b n : ℕ) (names : Option (ℕ × ℕ)) → phase ≡ Phase.Taxa b n names → taxa_end s b n (names_in text work names) ≡ end_block s (phase_of m text work d matrix phase)
  unfolding end_block phase_of
  ends-taxa b n names e = rw e

  pub ends-data : (b : ℕ) → phase ≡ Phase.Data b → data_end s b (matrix_of m text work d.matrix) ≡ end_block s (phase_of m text work d matrix phase)
  unfolding end_block phase_of data_of
  ends-data b e = rw e

  pub ends-assumptions : (b : ℕ) (default : Option CharacterOrdering) (typed : Bool) → phase ≡ Phase.Assumptions b default typed
      → done (record { phase = outside; taxa = s.taxa; matrix = matrix_typed (option_of default) (set_of m text work matrix typed) s.matrix; assumptions = true }) ≡ end_block s (phase_of m text work d matrix phase)
  unfolding end_block phase_of
  ends-assumptions b default typed e = rw e

  pub ends-trees : (b : ℕ) → phase ≡ Phase.Trees b → done (in_phase outside s) ≡ end_block s (phase_of m text work d matrix phase)
  unfolding end_block phase_of
  ends-trees b e = rw e

-- A command that does not end the block.
module _ (m : Reader) (text work : List ℕ) (d : Data) (matrix : Option Held) (phase : Phase) (s : B.State) (h : Numbered) (raw : List Numbered) where
  abbrev inner_right : Outcome B.State
  inner_right = then (inner_step s h raw (phase_of m text work d matrix phase)) (λ p. done (in_phase p s))

  pub inner-outside : phase ≡ Phase.Outside → done (in_phase outside s) ≡ inner_right
  unfolding inner_step phase_of then
  inner-outside e = rw e

  pub inner-taxa : (b n : ℕ) (names : Option (ℕ × ℕ)) → phase ≡ Phase.Taxa b n names → then (taxa_step h (words raw) b n (names_in text work names)) (λ p. done (in_phase p s)) ≡ inner_right
  unfolding inner_step phase_of
  inner-taxa b n names e = rw e

  pub inner-data : (b : ℕ) → phase ≡ Phase.Data b → then (data_step h raw b (data_of m text work d)) (λ p. done (in_phase p s)) ≡ inner_right
  unfolding inner_step phase_of
  inner-data b e = rw e

  pub inner-assumptions : (b : ℕ) (default : Option CharacterOrdering) (typed : Bool) → phase ≡ Phase.Assumptions b default typed
      → then (assumption_step s h (words raw) b (option_of default) (set_of m text work matrix typed)) (λ p. done (in_phase p s)) ≡ inner_right
  unfolding inner_step phase_of
  inner-assumptions b default typed e = rw e

  pub inner-trees : (b : ℕ) → phase ≡ Phase.Trees b → done (in_phase (in_trees b) s) ≡ inner_right
  unfolding inner_step phase_of then
  inner-trees b e = rw e

-- What is placed in a state whose open block is known.
module _ (text front : List ℕ) (size : ℕ) (s : State) (phase : Phase) where
  pub taxa-placed : (b n : ℕ) (names : Option (ℕ × ℕ)) → phase ≡ Phase.Taxa b n names → PhasePlaced text front size s phase → NamesPlaced text front size names
  taxa-placed b n names e p = subst (PhasePlaced text front size s) e p

  pub data-placed : (b : ℕ) → phase ≡ Phase.Data b → PhasePlaced text front size s phase → DataPlaced text front size s.«data» × (s.matrix ≡ None)
  data-placed b e p = subst (PhasePlaced text front size s) e p
