-- What is promised of a step that may store: the right answer, or that work memory is short, and then it is.
use Rattle.std.specs.Prelude.{ℕ, ◌≤◌, length, take, List, ◌≡◌, Result}
use Rattle.block.specs.Blocks as B
use Rattle.block.specs.Outcome.{Outcome, refused}
use Rattle.block.specs.Weights.{weights}
use Rattle.commands.specs.MatrixHeld.{held}
use Rattle.commands.specs.StateHeld.{state_of, stepped}
use Rattle.commands.specs.StatePlaced.{CommandPlaced, StatePlaced, SteppedPlaced}
use Rattle.commands.specs.declared.state.State.{State}
use Rattle.lexer.specs.Lexing.{longest, work_needed}
use Rattle.lexer.specs.Stored.{range}
use Rattle.lexer.specs.declared.refusal.Refusal.{Refusal}
use Rattle.lexer.specs.declared.Fault.{Fault}

-- An answer is the right one; or it is 2, and work memory was not enough.
pub data Answers {A : Type 0} (enough : Type 0) (answer right : Outcome A) : Type 0 where
  answered : answer ≡ right → Answers enough answer right
  short : answer ≡ refused Refusal.WorkMemoryShort 0 → (enough → ⊥) → Answers enough answer right

-- Enough work memory: 4n + 64 numbers for a text of n bytes, at most the longest, whose tokens, so many, have no more bytes together than the text.
pub record Enough (text work : List ℕ) (count : ℕ) : Type 0 where
  pub bytes : length text ≤ longest
  pub tokens : count ≤ length text
  pub weighed : weights (range text work 0 count) ≤ length text
  pub room : work_needed (length text) ≤ length work

-- What a state means by work memory, in front of which so many tokens stand.
unfoldable pub state_held : List ℕ → List ℕ → ℕ → State → B.State
state_held text work count s = state_of (held text work count) text (take count work) s

unfoldable pub step_held : List ℕ → List ℕ → ℕ → Result State (Fault ℕ) → Outcome B.State
step_held text work count r = stepped (held text work count) text (take count work) r

-- A step over a command, from its own word up to its end: where the tokens begin is kept; and its answer, where work memory is enough for it and the
-- state is placed, is the right one, which is placed again.
pub record Made (text before after : List ℕ) (count head to : ℕ) (s : State) (r : Result State (Fault ℕ)) (right : Outcome B.State) : Type 0 where
  pub size : length after ≡ length before
  pub kept : take count after ≡ take count before
  pub step : Answers (Enough text before count × CommandPlaced (take count before) head to × StatePlaced text (take count before) (length before) s) (step_held text after count r) right
  pub placed : CommandPlaced (take count before) head to → StatePlaced text (take count before) (length before) s → SteppedPlaced text (take count after) (length after) r
