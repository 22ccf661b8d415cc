-- The cells that words give a row, whatever they are: what is no symbol of the format, or no state in a set, is passed over. Of words that are judged
-- good these are the cells that the definition of a row gives.
use Rattle.std.specs.Prelude.{ℕ, leb, length, ◌||◌, List, [], ◌∷◌, ◌++◌}
use Rattle.block.specs.Cell.{Cell, state, uncertain, polymorphic, missing, gap, insert_all}
use Rattle.block.specs.Chunk.{Row, plain, within, cell, closer, set_cell}
use Rattle.block.specs.Format.{Format}
use Rattle.block.specs.declared.kinds.Bracket.{Bracket}
use Rattle.lexer.specs.Base.{pick, byte}
use Rattle.lexer.specs.Words.{Numbered, punct, is_word}
use Rattle.std.proofs.Math.Option.{Option, none, some}

unfoldable pub also : Option Cell → List Cell → List Cell
also none cells = cells
also (some c) cells = c ∷ cells

unfoldable pub cells_taken : Format → List ℕ → List Cell
cells_taken f [] = []
cells_taken f (b ∷ r) = let more = cells_taken f r in also (cell f b) more

-- The cells of a word. Besides a word only the mark `+` can be a symbol.
unfoldable pub word_taken : Format → Numbered → List Cell
word_taken f w = let cells = cells_taken f w.token.text in pick (is_word w.token.kind || punct (byte "+") w) cells []

-- The states among cells.
unfoldable pub states_taken : List Cell → List ℕ
states_taken [] = []
states_taken (state i ∷ r) = i ∷ states_taken r
states_taken (uncertain s ∷ r) = states_taken r
states_taken (polymorphic s ∷ r) = states_taken r
states_taken (missing ∷ r) = states_taken r
states_taken (gap ∷ r) = states_taken r

-- A row with one word more.
unfoldable pub taken : Format → Row → Numbered → Row
taken f (plain cells) w =
    let more = plain (cells ++ word_taken f w) in
    pick (punct (byte "{") w) (within cells Bracket.Brace w.index [])
    (pick (punct (byte "(") w) (within cells Bracket.Parenthesis w.index [])
    more)
taken f (within cells k i set) w =
    let more = within cells k i (insert_all (states_taken (word_taken f w)) set) in
    let whole = plain (cells ++ (set_cell k set ∷ [])) in
    pick (punct (closer k) w) whole more

-- The cells of a row so far.
unfoldable pub cells_in : Row → List Cell
cells_in (plain cells) = cells
cells_in (within cells k i set) = cells

-- The cells that words give a row until it has so many, and no set is open.
unfoldable pub row_after : ℕ → Row → (Row → List Cell) → List Cell
row_after n (plain cells) more = pick (leb n (length cells)) cells (more (plain cells))
row_after n (within cells k i set) more = more (within cells k i set)

unfoldable pub row_taken : Format → ℕ → Row → List Numbered → List Cell
row_taken f n row [] = cells_in row
row_taken f n row (w ∷ r) = row_after n (taken f row w) (λ next. row_taken f n next r)

-- The cells that all of these words give it.
unfoldable pub line_taken : Format → Row → List Numbered → List Cell
line_taken f row [] = cells_in row
line_taken f row (w ∷ r) = line_taken f (taken f row w) r
