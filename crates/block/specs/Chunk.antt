-- Cells as they are written: words of symbols, and sets in braces or parentheses.
use Rattle.std.specs.Prelude.{ℕ, suc, ◌||◌, List, [], ◌∷◌, ◌++◌}
use Rattle.block.specs.Cell.{Cell, state, uncertain, polymorphic, missing, gap, insert_all}
use Rattle.block.specs.Dna.{dna_cell}
use Rattle.block.specs.Format.{Format, equal}
use Rattle.block.specs.Outcome.{Outcome, done, refused, then, need}
use Rattle.block.specs.declared.data.DataType.{DataType}
use Rattle.block.specs.declared.kinds.Bracket.{Bracket}
use Rattle.lexer.specs.Base.{pick, byte}
use Rattle.lexer.specs.Words.{Numbered, punct, is_word}
use Rattle.lexer.specs.declared.refusal.Refusal.{Refusal}
use Rattle.std.proofs.Math.Option.{Option, none, some}

-- The index of the first symbol equal to a byte, counted from a number on.
unfoldable pub find_symbol : Format → ℕ → ℕ → List ℕ → Option ℕ
find_symbol f b i [] = none
find_symbol f b i (s ∷ r) = let more = find_symbol f b (suc i) r in pick (equal f s b) (some i) more

-- The state that a symbol is.
unfoldable pub state_of : Format → ℕ → Option ℕ
state_of f b = find_symbol f b 0 f.symbols

unfoldable pub state_cell : Option ℕ → Option Cell
state_cell none = none
state_cell (some i) = some (state i)

unfoldable pub state_or_code : DataType → Format → ℕ → Option Cell
state_or_code DataType.Standard f b = state_cell (state_of f b)
state_or_code DataType.Dna f b = dna_cell b

unfoldable pub gap_or : Format → Option ℕ → ℕ → Option Cell
gap_or f none b = state_or_code f.data_type f b
gap_or f (some g) b = let other = state_or_code f.data_type f b in pick (equal f g b) (some gap) other

-- The cell of one symbol: missing's comes first, then the gap's, then those of the states.
unfoldable pub cell : Format → ℕ → Option Cell
cell f b = let other = gap_or f f.gap b in pick (equal f f.missing b) (some missing) other

-- The cell before the others, if all are cells.
unfoldable pub before : Option Cell → Option (List Cell) → Option (List Cell)
before none more = none
before (some c) none = none
before (some c) (some cs) = some (c ∷ cs)

unfoldable pub cells_of : Format → List ℕ → Option (List Cell)
cells_of f [] = some []
cells_of f (b ∷ r) = let more = cells_of f r in before (cell f b) more

-- The cells of a word, judged whole. Besides a word only the mark `+` can be a symbol.
unfoldable pub symbols : Format → Numbered → Outcome (List Cell)
symbols f w =
    let cells = need (cells_of f w.token.text) Refusal.CellSymbol w.index in
    pick (is_word w.token.kind || punct (byte "+") w) cells (refused Refusal.CellSymbol w.index)

-- The states of these cells, if they are all states.
unfoldable pub with_state : ℕ → Option (List ℕ) → Option (List ℕ)
with_state i none = none
with_state i (some s) = some (i ∷ s)

unfoldable pub only_states : List Cell → Option (List ℕ)
only_states [] = some []
only_states (state i ∷ r) = let more = only_states r in with_state i more
only_states (uncertain s ∷ r) = none
only_states (polymorphic s ∷ r) = none
only_states (missing ∷ r) = none
only_states (gap ∷ r) = none

-- The two kinds of set: uncertain in braces, polymorphic in parentheses.
unfoldable pub closer : Bracket → ℕ
closer Bracket.Brace = byte "}"
closer Bracket.Parenthesis = byte ")"

unfoldable pub set_cell : Bracket → List ℕ → Cell
set_cell Bracket.Brace s = uncertain s
set_cell Bracket.Parenthesis s = polymorphic s

-- A row so far: its cells; and where a set is open, its kind, the index of its opening mark and its states so far.
pub data Row : Type 0 where
  plain : List Cell → Row
  within : List Cell → Bracket → ℕ → List ℕ → Row

unfoldable pub closed : List Cell → Bracket → ℕ → List ℕ → Outcome Row
closed cells k i [] = refused Refusal.StateSet i
closed cells k i (s ∷ r) = done (plain (cells ++ (set_cell k (s ∷ r) ∷ [])))

unfoldable pub into_set : List Cell → Bracket → ℕ → List ℕ → Numbered → List Cell → Outcome Row
into_set cells k i set w new =
    then (need (only_states new) Refusal.StateSet w.index) (λ s. done (within cells k i (insert_all s set)))

-- A row with one token more.
unfoldable pub chunk : Format → Row → Numbered → Outcome Row
chunk f (plain cells) w =
    let more = then (symbols f w) (λ new. done (plain (cells ++ new))) in
    pick (punct (byte "{") w) (done (within cells Bracket.Brace w.index []))
    (pick (punct (byte "(") w) (done (within cells Bracket.Parenthesis w.index []))
    more)
chunk f (within cells k i set) w =
    let more = then (symbols f w) (into_set cells k i set w) in
    pick (punct (closer k) w) (closed cells k i set) more

-- The cells of a row whose tokens have ended.
unfoldable pub row_end : Row → Outcome (List Cell)
row_end (plain cells) = done cells
row_end (within cells k i set) = refused Refusal.StateSet i
