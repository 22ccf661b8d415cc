-- The types of a set as work memory holds them, a number for each character: 0 none, 1 UNORD, 2 ORD; and what the code's answers about types mean.
use Rattle.std.specs.Prelude.{ℕ, zero, suc, get_or, Bool, List, [], ◌∷◌}
use Rattle.block.specs.Typeset.{Types}
use Rattle.block.specs.declared.model.CharacterOrdering.{CharacterOrdering}
use Rattle.lexer.specs.Base.{pick}
use Rattle.std.proofs.Math.Option.{Option, none, some}

-- The number of a type.
unfoldable pub type_number : CharacterOrdering → ℕ
type_number CharacterOrdering.Unordered = 1
type_number CharacterOrdering.Ordered = 2

-- The type of a number.
unfoldable pub type_of : ℕ → Option CharacterOrdering
type_of zero = none
type_of (suc zero) = some CharacterOrdering.Unordered
type_of (suc (suc n)) = some CharacterOrdering.Ordered

-- The types of so many characters, held from a place of work memory on.
unfoldable pub types_held : List ℕ → ℕ → ℕ → Types
types_held work at zero = []
types_held work at (suc n) = let more = types_held work (suc at) n in type_of (get_or work at 0) ∷ more

-- The types so far, unless a character was typed twice.
unfoldable pub unless_twice : Bool → Types → Option Types
unless_twice twice ts = pick twice none (some ts)
