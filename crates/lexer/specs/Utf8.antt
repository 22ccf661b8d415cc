-- Well-formed UTF-8, as the Unicode standard's table of byte sequences (and so Rust's `from_utf8`) has it.
use Rattle.std.specs.Prelude.{ℕ, zero, suc, leb, ltb, eqb, Bool, true, false, ◌&&◌, List, [], ◌∷◌}
use Rattle.lexer.specs.Base.{pick}

-- What may follow a byte: so many bytes of the same character, the next of them from low to high. The rest are 128 to 191.
pub record Follows : Type 0 where
  pub more : ℕ
  pub low : ℕ
  pub high : ℕ

-- So many bytes more, the next of them from low to high.
unfoldable pub follow : ℕ → ℕ → ℕ → Follows
follow n l h = record { more = n; low = l; high = h }

-- What follows a character's first byte from 192 on. The narrower ranges shut out overlong forms, surrogates and what lies beyond U+10FFFF.
unfoldable pub after_lead : ℕ → Follows
after_lead b =
    pick (ltb b 224) (follow 1 128 191)
    (pick (eqb b 224) (follow 2 160 191)
    (pick (eqb b 237) (follow 2 128 159)
    (pick (ltb b 240) (follow 2 128 191)
    (pick (eqb b 240) (follow 3 144 191)
    (pick (eqb b 244) (follow 3 128 143)
    (follow 3 128 191))))))

-- The bytes that can begin a character.
unfoldable pub is_lead : ℕ → Bool
is_lead b = leb 194 b && leb b 244

-- Are the bytes well-formed, where so much of a character is still to come?
unfoldable pub utf8_from : ℕ → ℕ → ℕ → List ℕ → Bool
utf8_from zero low high [] = true
utf8_from (suc n) low high [] = false
utf8_from zero low high (b ∷ r) =
    let f = after_lead b in
    let ascii = utf8_from 0 128 191 r in
    let longer = utf8_from f.more f.low f.high r in
    let other = is_lead b && longer in
    pick (ltb b 128) ascii other
utf8_from (suc n) low high (b ∷ r) =
    let more = utf8_from n 128 191 r in
    leb low b && leb b high && more

-- Is the text UTF-8?
unfoldable pub utf8 : List ℕ → Bool
utf8 text = utf8_from 0 128 191 text

-- Where the ASCII bytes at the front of the rest end. `i` is where the rest stands.
unfoldable pub ascii_end : ℕ → List ℕ → ℕ
ascii_end i [] = i
ascii_end i (b ∷ r) = let more = ascii_end (suc i) r in pick (ltb b 128) more i
