-- Commands by the indices of their tokens, as the code finds them.
use Rattle.std.specs.Prelude.{ℕ, zero, suc, ◌+◌, ◌≤◌, ◌<◌, Bool, true, List, [], ◌∷◌}
use Rattle.block.specs.Commands.{Command, command, empty, unended, commands, commands_from}
use Rattle.block.specs.declared.commands.Cut.{Cut}
use Rattle.lexer.specs.Base.{pick}
use Rattle.lexer.specs.Stored.{word_of, range}
use Rattle.lexer.specs.Words.{Numbered}

-- The first index, among so many, whose word passes a test; or the one behind them.
unfoldable pub first_where : (Numbered → Bool) → List ℕ → List ℕ → ℕ → ℕ → ℕ
first_where test text work i zero = i
first_where test text work i (suc n) =
    let more = first_where test text work (suc i) n in
    pick (test (word_of text work i)) i more

-- The commands that a cut leaves, of so many tokens: what was found, and those behind it.
unfoldable pub cut_of : List ℕ → List ℕ → ℕ → Cut → List Command
cut_of text work count Cut.None = []
cut_of text work count (Cut.Empty i) = empty i ∷ commands (range text work (i + 1) count)
cut_of text work count (Cut.Unended i) = unended i ∷ commands_from true (range text work (i + 1) count)
cut_of text work count (Cut.Command h e) = command (word_of text work h) (range text work (h + 1) e) ∷ commands (range text work (e + 1) count)

-- What was found stands among the tokens, in order.
abbrev pub Within : ℕ → ℕ → Cut → Type 0
Within from count Cut.None = Unit {0}
Within from count (Cut.Empty i) = (from ≤ i) × (i < count)
Within from count (Cut.Unended i) = (from ≤ i) × (i < count)
Within from count (Cut.Command h e) = (from ≤ h) × (h < e) × (e < count)
