-- The map of work memory, behind the starts of the tokens, for a matrix of so many lines, taxa and characters: a number for each line, the index of
-- its name; room for an index of the taxa, one each; for each declared taxon the number of its row; for each character its label, then for each its
-- state labels; for each its type.
use Rattle.std.specs.Prelude.{ℕ, ◌+◌, ◌*◌, leb, Bool, ◌&&◌}
use Rattle.lexer.specs.Lexing.{longest}

-- Where the lines begin is the count of the tokens. Where the order begins:
unfoldable pub order_place : ℕ → ℕ → ℕ → ℕ
order_place count lines taxa = count + lines + taxa

-- the labels:
unfoldable pub labels_place : ℕ → ℕ → ℕ → ℕ
labels_place count lines taxa = count + lines + 2 * taxa

-- the types:
unfoldable pub types_place : ℕ → ℕ → ℕ → ℕ → ℕ
types_place count lines taxa characters = count + lines + 2 * taxa + 2 * characters

-- Does the map fit in work memory of so many numbers? No count is above the longest text; and a number for each token fits behind the place of the
-- order, since declared names may be as many.
unfoldable pub map_fits : ℕ → ℕ → ℕ → ℕ → ℕ → Bool
map_fits size count lines taxa characters =
    leb count longest && leb lines longest && leb taxa longest && leb characters longest
    && leb (count + lines + taxa + count) size
    && leb (count + lines + 2 * taxa + 3 * characters) size
