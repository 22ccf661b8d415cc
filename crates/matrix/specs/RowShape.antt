-- A row by its shape alone, as the code keeps it while a matrix is judged: how many cells it has, and what is open.
use Rattle.std.specs.List.{list_all}
use Rattle.std.specs.Prelude.{ℕ, ◌+◌, eqb, ltb, length, get_or, Bool, true, not, ◌&&◌, ◌||◌, List, [], ◌∷◌, Some, None, Option}
use Rattle.block.specs.Chunk.{Row, plain, within, closer}
use Rattle.block.specs.Outcome.{Outcome, done, refused}
use Rattle.block.specs.declared.kinds.Bracket.{Bracket}
use Rattle.lexer.specs.Base.{pick, is_empty, byte}
use Rattle.lexer.specs.Words.{Numbered, punct, is_word}
use Rattle.lexer.specs.declared.refusal.Refusal.{Refusal}
use Rattle.matrix.specs.declared.matrix.Chunk.{Chunk}

-- The shape of a row.
unfoldable pub shape : Row → Chunk
shape (plain cells) = Chunk.Plain (length cells)
shape (within cells k i set) = Chunk.Within (length cells) k i (is_empty set)

-- How many cells a row has so far.
unfoldable pub so_far : Chunk → ℕ
so_far (Chunk.Plain n) = n
so_far (Chunk.Within n k mark none) = n

-- What the symbols of a word come to behind so many cells, by their codes: how many cells, and whether all are states.
unfoldable pub coded : List ℕ → ℕ → Bool → List ℕ → Option (ℕ × Bool)
coded codes n states [] = Some (n, states)
coded codes n states (b ∷ r) =
    let c = get_or codes b 0 in
    let more = coded codes (n + 1) (states && ltb c 96) r in
    pick (eqb c 255) None more

-- Are all of these symbols cells, by their codes?
unfoldable pub all_coded : List ℕ → List ℕ → Bool
all_coded codes l = list_all (λ b. not (eqb (get_or codes b 0) 255)) l

-- The symbols of a word. Besides a word only the mark `+` can be a symbol.
unfoldable pub symbols_coded : List ℕ → Numbered → Option (ℕ × Bool)
symbols_coded codes w =
    let cells = coded codes 0 true w.token.text in
    pick (is_word w.token.kind || punct (byte "+") w) cells None

-- A row of so many cells behind a word.
unfoldable pub plain_with : ℕ → ℕ → Option (ℕ × Bool) → Outcome Chunk
plain_with n i (Some (k, states)) = done (Chunk.Plain (n + k))
plain_with n i None = refused Refusal.CellSymbol i

-- A set behind a word: only states may stand in it.
unfoldable pub within_with : ℕ → Bracket → ℕ → Bool → ℕ → Option (ℕ × Bool) → Outcome Chunk
within_with n k mark none i (Some (c, states)) = pick states (done (Chunk.Within n k mark (none && eqb c 0))) (refused Refusal.StateSet i)
within_with n k mark none i None = refused Refusal.CellSymbol i

-- The shape of a row with one token more.
unfoldable pub chunk_shape : List ℕ → Chunk → Numbered → Outcome Chunk
chunk_shape codes (Chunk.Plain n) w =
    let more = plain_with n w.index (symbols_coded codes w) in
    pick (punct (byte "{") w) (done (Chunk.Within n Bracket.Brace w.index true))
    (pick (punct (byte "(") w) (done (Chunk.Within n Bracket.Parenthesis w.index true))
    more)
chunk_shape codes (Chunk.Within n k mark none) w =
    let more = within_with n k mark none w.index (symbols_coded codes w) in
    pick (punct (closer k) w) (pick none (refused Refusal.StateSet mark) (done (Chunk.Plain (n + 1)))) more
