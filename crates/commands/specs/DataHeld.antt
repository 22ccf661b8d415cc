-- What the code's answer to a command of a data block means.
use Rattle.std.specs.Prelude.{ℕ, List, Ok, Err, Result}
use Rattle.block.specs.Blocks as B
use Rattle.block.specs.Outcome.{Outcome, done, refused}
use Rattle.commands.specs.StateHeld.{Reader, data_of}
use Rattle.commands.specs.StatePlaced.{DataPlaced}
use Rattle.lexer.specs.declared.Fault.{Fault}
use Rattle.commands.specs.declared.state.Data.{Data}

unfoldable pub declared : Reader → List ℕ → List ℕ → Result Data (Fault ℕ) → Outcome B.Data
declared m text work (Ok d) = done (data_of m text work d)
declared m text work (Err f) = refused f.0 f.1

abbrev pub DeclaredPlaced : List ℕ → List ℕ → ℕ → Result Data (Fault ℕ) → Type 0
DeclaredPlaced text front size (Ok d) = DataPlaced text front size d
DeclaredPlaced text front size (Err f) = Unit {0}
