-- The commands of a text one after another: where each ends, and what is promised of the step over the next one and of all of them.
use Rattle.std.specs.Prelude.{ℕ, ◌+◌, ◌≤◌, ◌<◌, length, take, true, List, ◌≡◌, Ok, Err, Result}
use Rattle.block.specs.Blocks as B
use Rattle.block.specs.Commands.{commands}
use Rattle.block.specs.Outcome.{Outcome, fold, refused}
use Rattle.block.specs.Parse.{parse_behind}
use Rattle.block.specs.declared.commands.Cut.{Cut}
use Rattle.commands.specs.StatePlaced.{StatePlaced}
use Rattle.commands.specs.Stepping.{Answers, Enough, state_held}
use Rattle.commands.specs.WorkMap.{map_fits}
use Rattle.commands.specs.declared.state.Held.{Held}
use Rattle.commands.specs.declared.state.State.{State}
use Rattle.lexer.specs.Stored.{range}
use Rattle.parser.specs.ParsedHeld.{parsed_held}
use Rattle.lexer.specs.declared.Fault.{Fault}

-- Where to go on behind what was found among so many tokens. Behind no command, and behind one that does not end, that is the end.
unfoldable pub cut_end : ℕ → Cut → ℕ
cut_end count Cut.None = count
cut_end count (Cut.Empty i) = i + 1
cut_end count (Cut.Unended i) = count
cut_end count (Cut.Command h e) = e + 1

-- What the commands from an index on make of a state.
unfoldable pub commands_held : List ℕ → List ℕ → ℕ → State → ℕ → Outcome B.State
commands_held text work count s i = fold B.step (state_held text work count s) (commands (range text (take count work) i count))

-- Behind the next command the commands that are left make of its state what all of them make of the state before; or the refusal is right, or it says
-- that work memory is short, and then it is.
abbrev pub TurnedRight : List ℕ → List ℕ → ℕ → ℕ → Type 0 → Outcome B.State → Result (State × ℕ) (Fault ℕ) → Type 0
TurnedRight text after count from enough right (Ok (t, i)) = (commands_held text after count t i ≡ right) × (from < i)
TurnedRight text after count from enough right (Err f) = Answers enough (refused f.0 f.1) right

abbrev pub TurnedPlaced : List ℕ → List ℕ → ℕ → Result (State × ℕ) (Fault ℕ) → Type 0
TurnedPlaced text front size (Ok (t, i)) = StatePlaced text front size t
TurnedPlaced text front size (Err f) = Unit {0}

-- The step over the next command from an index on.
pub record TurnMade (text before after : List ℕ) (count from : ℕ) (s : State) (r : Result (State × ℕ) (Fault ℕ)) : Type 0 where
  pub size : length after ≡ length before
  pub kept : take count after ≡ take count before
  pub turn : TurnedRight text after count from (Enough text before count × StatePlaced text (take count before) (length before) s) (commands_held text before count s from) r
  pub placed : length (take count before) ≤ 1048576 → StatePlaced text (take count before) (length before) s → TurnedPlaced text (take count after) (length after) r

-- All commands behind #NEXUS, the word with this index, and the end of the text.
pub record BehindMade (text before after : List ℕ) (count header : ℕ) (r : Result Held (Fault ℕ)) : Type 0 where
  pub size : length after ≡ length before
  pub kept : take count after ≡ take count before
  pub answer : Answers (Enough text before count) (parsed_held text after count r) (parse_behind header (range text (take count before) (header + 1) count))
  pub fits : (h : Held) → r ≡ Ok h → map_fits (length after) count h.lines h.taxa h.characters ≡ true
