-- The names that words are.
use Rattle.std.specs.Prelude.{ℕ, List, map}
use Rattle.lexer.specs.Words.{Numbered, spaced}

-- The name that a word is, if it is one.
unfoldable pub name_of : Numbered → List ℕ
name_of w = spaced w.token.text

unfoldable pub names_of : List Numbered → List (List ℕ)
names_of ws = map name_of ws
