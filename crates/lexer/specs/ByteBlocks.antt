-- Bytes a block at a time: how far the code goes over ASCII bytes, words and comments before it looks at single bytes. That the ASCII bytes, the
-- word or the comment end alike from behind the blocks is shown in proofs/ByteBlocks.antt and CommentBlocks.antt.
use Rattle.std.specs.Prelude.{ℕ, zero, suc, ◌+◌, ◌-◌, ◌/◌, leb, ltb, eqb, length, drop, Bool, true, false, ◌&&◌, ◌||◌, not, List, [], ◌∷◌}
use Rattle.lexer.specs.Base.{pick, byte}

-- Is the byte ASCII?
unfoldable pub is_ascii : ℕ → Bool
is_ascii b = ltb b 128

-- Is the byte a letter, a digit, or one of `-`, `.`, `?` and `_`? Words are mostly of such bytes; the class of each is other.
unfoldable pub is_plain : ℕ → Bool
is_plain b =
    (leb (byte "-") b && leb b (byte "9") && not (eqb b (byte "/")))
    || (leb (byte "a") b && leb b (byte "z"))
    || (leb (byte "A") b && leb b (byte "Z"))
    || eqb b (byte "?")
    || eqb b (byte "_")

-- Are there so many bytes, and are the first so many all of a kind?
unfoldable pub all_first : (ℕ → Bool) → ℕ → List ℕ → Bool
all_first p zero r = true
all_first p (suc n) [] = false
all_first p (suc n) (b ∷ r) = let more = all_first p n r in p b && more

-- Behind the first blocks, of so many, that are all of a kind. `i` is where the rest stands.
unfoldable pub blocks_behind : (ℕ → Bool) → ℕ → ℕ → ℕ → List ℕ → ℕ
blocks_behind p size zero i r = i
blocks_behind p size (suc n) i r =
    let more = blocks_behind p size n (i + size) (drop size r) in
    pick (all_first p size r) more i

-- Behind the first whole blocks of the rest that are all of a kind.
unfoldable pub blocks_end : (ℕ → Bool) → ℕ → ℕ → List ℕ → ℕ
blocks_end p size i r = blocks_behind p size (length r / size) i r

-- Behind the first bytes of the rest that are plain. `i` is where the rest stands.
unfoldable pub plain_end : ℕ → List ℕ → ℕ
plain_end i [] = i
plain_end i (b ∷ r) = let more = plain_end (i + 1) r in pick (is_plain b) more i

-- How many of the first so many bytes are this one.
unfoldable pub count_in : ℕ → ℕ → List ℕ → ℕ
count_in b zero r = 0
count_in b (suc n) [] = 0
count_in b (suc n) (c ∷ r) = let more = count_in b n r in pick (eqb c b) 1 0 + more

-- A place in a comment, and how many more comments are open there.
pub record Nested : Type 0 where
  pub at : ℕ
  pub depth : ℕ

-- So many are open at this place.
unfoldable pub nested : ℕ → ℕ → Nested
nested d i = record { at = i; depth = d }

-- Behind the first blocks of eight bytes, of so many, that have no more closing brackets than comments are open before them: the comment
-- cannot end in such a block, and only the counts of its brackets matter.
unfoldable pub comment_behind : ℕ → ℕ → ℕ → List ℕ → Nested
comment_behind zero d i r = nested d i
comment_behind (suc n) d i r =
    let closing = count_in (byte "]") 8 r in
    let opening = count_in (byte "[") 8 r in
    let more = comment_behind n (d - closing + opening) (i + 8) (drop 8 r) in
    pick (ltb d closing) (nested d i) more

-- Behind the first such blocks of the rest.
unfoldable pub comment_blocks : ℕ → ℕ → List ℕ → Nested
comment_blocks d i r = comment_behind (length r / 8) d i r
