-- The words of TAXLABELS judged in front of its step, with work memory that nothing is held in.
use Rattle.std.specs.Prelude.{ℕ, ◌≤◌, ◌<◌, length, take, List, ◌≡◌, None, Result, ⊤}
use Rattle.commands.specs.MatrixHeld.{held}
use Rattle.commands.specs.StateHeld.{data_of}
use Rattle.commands.specs.Stepping.{state_held}
use Rattle.commands.specs.TaxaJudged.{TaxaJudged}
use Rattle.commands.specs.declared.state.State.{State}
use Rattle.lexer.specs.declared.Fault.{Fault}

-- An index of work memory, which has so many numbers, from which on nothing is held; it is behind so many tokens.
pub record FreeFrom (size count : ℕ) (s : State) (at : ℕ) : Type 0 where
  pub behind : count ≤ at
  pub within : at ≤ size
  pub unread : at < size → (s.matrix ≡ None) × (s.«data».matrix ≡ None)

-- The words of TAXLABELS were judged: where the tokens begin is kept, and the state and the data of its open block mean what they did.
pub record TaxaTold (text before after : List ℕ) (count head to : ℕ) (s : State) (r : Result ⊤ (Fault ℕ)) : Type 0 where
  pub size : length after ≡ length before
  pub kept : take count after ≡ take count before
  pub state : state_held text after count s ≡ state_held text before count s
  pub declared : data_of (held text after count) text (take count after) s.«data» ≡ data_of (held text before count) text (take count before) s.«data»
  pub taxa : TaxaJudged text (take count after) head to r
