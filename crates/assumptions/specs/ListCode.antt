-- What the code's answers about character lists mean.
use Rattle.std.specs.Prelude.{ℕ, Bool, List, ◌≡◌, Ok, Err, Result, Option, Some, None}
use Rattle.assumptions.specs.TypesHeld.{unless_twice}
use Rattle.assumptions.specs.declared.characters.Listed as Code
use Rattle.block.specs.CharacterList.{Listed, listed}
use Rattle.block.specs.Outcome.{Outcome, done, refused}
use Rattle.block.specs.Typeset.{Types, typed}
use Rattle.block.specs.declared.kinds.Item.{Item}
use Rattle.block.specs.declared.kinds.Range.{Range}
use Rattle.block.specs.declared.model.CharacterOrdering.{CharacterOrdering}
use Rattle.lexer.specs.declared.refusal.Refusal.{Refusal}
use Rattle.lexer.specs.declared.Fault.{Fault}
use Rattle.lexer.specs.Refusals.{fault}

-- A list so far in the code is where it is and whether a character was typed twice; its ranges are typed already. So it stands for a list of the
-- definition with some ranges, which give the types `us` where they were `ts` before the list.
pub record Stands (o : CharacterOrdering) (ts us : Types) (m : Item) (twice : Bool) (out : Outcome Listed) : Type 0 where
  pub ranges : List Range
  pub is : out ≡ done (listed ranges m)
  pub gives : typed o ranges ts ≡ unless_twice twice us

-- What a part or a word more comes to.
pub record Follows (o : CharacterOrdering) (ts us : Types) (out : Outcome Listed) (r : Result Code.Listed (Fault ℕ)) : Type 0 where
  pub on : (l : Code.Listed) → r ≡ Ok l → Stands o ts us l.item l.twice out
  pub over : (n : Refusal) (i : ℕ) → r ≡ Err (fault n i) → out ≡ refused n i

-- A list has ended: the command goes on at an index, or is over.
unfoldable pub list_then : Types → Result (Option ℕ) (Fault ℕ) → (ℕ → Outcome Types) → Outcome Types
list_then us (Ok (Some i)) f = f i
list_then us (Ok None) f = done us
list_then us (Err e) f = refused e.0 e.1
