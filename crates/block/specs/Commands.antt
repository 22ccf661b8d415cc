-- Commands: the tokens after the header, cut at each `;`. Newlines before a command are skipped.
use Rattle.std.specs.Prelude.{ℕ, Bool, true, false, List, [], ◌∷◌}
use Rattle.lexer.specs.Base.{pick, byte}
use Rattle.lexer.specs.Words.{Numbered, punct, is_line_end}

-- A command's first word and the tokens behind it, newlines among them; or a `;` with nothing before it; or a first word after which no `;` comes.
pub data Command : Type 0 where
  command : Numbered → List Numbered → Command
  empty : ℕ → Command
  unended : ℕ → Command

-- Is the token a newline?
unfoldable pub newline : Numbered → Bool
newline w = is_line_end w.token.kind

-- `;`
unfoldable pub semicolon : Numbered → Bool
semicolon w = punct (byte ";") w

-- The tokens up to the next `;`.
unfoldable pub up_to_end : List Numbered → List Numbered
up_to_end [] = []
up_to_end (w ∷ r) = let more = w ∷ up_to_end r in pick (semicolon w) [] more

-- Does a `;` come?
unfoldable pub ended : List Numbered → Bool
ended [] = false
ended (w ∷ r) = let more = ended r in pick (semicolon w) true more

-- The command that begins with this token.
unfoldable pub begun : Numbered → List Numbered → Command
begun w r = let whole = command w (up_to_end r) in pick (ended r) whole (unended w.index)

-- The commands that begin in these tokens, where a command is open already or not.
unfoldable pub commands_from : Bool → List Numbered → List Command
commands_from inside [] = []
commands_from false (w ∷ r) =
    let later = commands_from false r in
    let within = commands_from true r in
    let none = empty w.index ∷ later in
    let one = begun w r ∷ within in
    pick (newline w) later (pick (semicolon w) none one)
commands_from true (w ∷ r) =
    let later = commands_from false r in
    let within = commands_from true r in
    pick (semicolon w) later within

unfoldable pub commands : List Numbered → List Command
commands tokens = commands_from false tokens

-- The words of a command: its tokens without the newlines.
unfoldable pub words : List Numbered → List Numbered
words [] = []
words (w ∷ r) = let more = words r in let this = w ∷ more in pick (newline w) more this
