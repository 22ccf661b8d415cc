-- The step over what was found next among the tokens, and what is promised of it and of reading a text.
use Rattle.std.specs.Prelude.{ℕ, ◌+◌, ◌≤◌, length, take, true, List, ◌≡◌, Ok, Result}
use Rattle.block.specs.Blocks as B
use Rattle.block.specs.Commands.{command, empty, unended}
use Rattle.block.specs.CommandsCut.{Within}
use Rattle.block.specs.Outcome.{Outcome, done}
use Rattle.block.specs.Parse.{parse_from}
use Rattle.block.specs.declared.commands.Cut.{Cut}
use Rattle.commands.specs.StatePlaced.{StatePlaced, SteppedPlaced}
use Rattle.commands.specs.Stepping.{Answers, Enough, state_held, step_held}
use Rattle.commands.specs.WorkMap.{map_fits}
use Rattle.commands.specs.declared.state.Held.{Held}
use Rattle.commands.specs.declared.state.State.{State}
use Rattle.lexer.specs.Stored.{range, word_of}
use Rattle.parser.specs.ParsedHeld.{parsed_held}
use Rattle.lexer.specs.declared.Fault.{Fault}

-- The state behind what was found; behind nothing it is the same.
unfoldable pub cut_step : List ℕ → List ℕ → B.State → Cut → Outcome B.State
cut_step text front s Cut.None = done s
cut_step text front s (Cut.Empty i) = B.step s (empty i)
cut_step text front s (Cut.Unended i) = B.step s (unended i)
cut_step text front s (Cut.Command h e) = B.step s (command (word_of text front h) (range text front (h + 1) e))

-- Where the tokens begin is kept; and the answer, where work memory is enough, what was found stands among the tokens and the state is placed, is the
-- right one, which is placed again.
pub record StepMade (text before after : List ℕ) (count : ℕ) (s : State) (cut : Cut) (r : Result State (Fault ℕ)) : Type 0 where
  pub size : length after ≡ length before
  pub kept : take count after ≡ take count before
  pub step : Answers (Enough text before count × Within 0 count cut × StatePlaced text (take count before) (length before) s) (step_held text after count r) (cut_step text (take count before) (state_held text before count s) cut)
  pub placed : length (take count before) ≤ 1048576 → Within 0 count cut → StatePlaced text (take count before) (length before) s → SteppedPlaced text (take count after) (length after) r

-- Where the tokens begin is kept; the answer is that of the definition for the tokens that work memory names, whatever it holds, or it says that work
-- memory is short, and then it is; and a matrix that is held fits in work memory.
pub record ParseMade (text before after : List ℕ) (count : ℕ) (r : Result Held (Fault ℕ)) : Type 0 where
  pub size : length after ≡ length before
  pub kept : take count after ≡ take count before
  pub answer : Answers (Enough text before count) (parsed_held text after count r) (parse_from count (range text before 0 count))
  pub fits : (h : Held) → r ≡ Ok h → map_fits (length after) count h.lines h.taxa h.characters ≡ true
