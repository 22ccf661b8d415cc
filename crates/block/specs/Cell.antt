-- Cells: what stands for one taxon and one character.
use Rattle.std.specs.Prelude.{ℕ, ltb, eqb, List, [], ◌∷◌}
use Rattle.lexer.specs.Base.{pick}

-- A state by its index among the symbols; a set of states, uncertain (in braces) or polymorphic (in parentheses); missing; a gap.
pub data Cell : Type 0 where
  state : ℕ → Cell
  uncertain : List ℕ → Cell
  polymorphic : List ℕ → Cell
  missing : Cell
  gap : Cell

-- A set with one state more: indices rise strictly.
unfoldable pub insert : ℕ → List ℕ → List ℕ
insert i [] = i ∷ []
insert i (j ∷ r) =
    let first = i ∷ j ∷ r in
    let all = j ∷ r in
    let later = j ∷ insert i r in
    pick (ltb i j) first (pick (eqb i j) all later)

-- A set with several states more.
unfoldable pub insert_all : List ℕ → List ℕ → List ℕ
insert_all [] set = set
insert_all (i ∷ r) set = insert i (insert_all r set)
