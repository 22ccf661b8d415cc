-- The pieces of a written form keep UTF-8: an ASCII byte, and a name in quotes, before a text are as well-formed as the text. Assumes nothing.
use Prim.Native.Nat.{ℕ, zero, suc, ◌≤◌}
use Rattle.lexer.proofs.Basics.{and_left, and_right, by-test}
use Rattle.lexer.proofs.TextUtf8.{lead-range}
use Rattle.lexer.specs.Base.{pick}
use Rattle.lexer.specs.Utf8.{after_lead, is_lead, utf8_from, utf8}
use Rattle.record.proofs.SoundNames.{sound-name}
use Rattle.record.specs.Form.{quote, quoted_from, quoted}
use Rattle.block.specs.Sound.{sound_name}
use borrow.Author.Tests.{leb-true, ltb-false, ne_eqb}
use lib.Dec.{eqb, leb, ltb}
use mathlib.Core.Bool.{true, ◌&&◌, false≢true}
use mathlib.Core.List.{List, [], ◌∷◌, ◌++◌}
use mathlib.Core.Path.{◌≡◌, refl, ◌∙◌}
use native.Mathlib.Omega.{arith}

ascii-from : (b low high : ℕ) → ltb b 128 ≡ true → (r : List ℕ) → utf8_from 0 low high (b ∷ r) ≡ utf8 r
unfolding utf8_from utf8 pick
ascii-from b low high h r = rw h

pub ascii-utf8 : (b : ℕ) → ltb b 128 ≡ true → (r : List ℕ) → utf8 (b ∷ r) ≡ utf8 r
unfolding utf8
ascii-utf8 b h r = ascii-from b 128 191 h r

-- A byte of a name as it stands in quotes: an ASCII byte is written as one or two, any other is written as it is.
quote-ascii : (b low high : ℕ) → ltb b 128 ≡ true → (r : List ℕ) → utf8_from 0 low high (quote b ++ r) ≡ utf8 r
unfolding quote pick utf8_from utf8
quote-ascii b low high h r =
    by-test (eqb b 39) (λ t. rw t) (λ f. by-test (eqb b 32) (λ t. rw (f, t)) (λ g. rw (f, g, h)))

quote-other : (b : ℕ) → 128 ≤ b → quote b ≡ b ∷ []
unfolding quote pick
quote-other b h = rw (ne_eqb b 39 (λ e. omega arith), ne_eqb b 32 (λ e. omega arith))

from-quoted : (n : List ℕ) (k low high : ℕ)
    → 128 ≤ low → utf8_from k low high n ≡ true → (r : List ℕ) → utf8_from k low high (quoted_from n r) ≡ utf8 r
unfolding quoted_from utf8_from utf8 pick
from-quoted [] zero low high l h r = ascii-from 39 low high refl r
from-quoted [] (suc k) low high l h r = absurd (false≢true h)
from-quoted (b ∷ n) zero low high l h r =
    by-test (ltb b 128)
    (λ t. quote-ascii b low high t (quoted_from n r) ∙ from-quoted n 0 128 191 (omega arith) (rw t at h) r)
    (λ f.
    let next = after_lead b in
    let longer = utf8_from next.more next.low next.high n in
    let both : is_lead b && longer ≡ true = rw f at h in
    rw (quote-other b (ltb-false b 128 f), f, and_left (is_lead b) longer both)
    (from-quoted n next.more next.low next.high (lead-range b).0 (and_right (is_lead b) longer both) r))
from-quoted (b ∷ n) (suc k) low high l h r =
    let more = utf8_from k 128 191 n in
    let within : leb low b && leb b high ≡ true = and_left (leb low b && leb b high) more h in
    let above : low ≤ b = leb-true low b (and_left (leb low b) (leb b high) within) in
    rw (quote-other b (omega arith), within) (from-quoted n k 128 191 (omega arith) (and_right (leb low b && leb b high) more h) r)

pub quoted-utf8 : (n : List ℕ) → sound_name n ≡ true → (r : List ℕ) → utf8 (quoted n r) ≡ utf8 r
unfolding quoted utf8
quoted-utf8 n h r =
    ascii-from 39 128 191 refl (quoted_from n r) ∙ from-quoted n 0 128 191 (omega arith) (sound-name n h).utf r
