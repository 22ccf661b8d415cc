-- The bytes of a name as they are put, each escaped, `_` as a blank; and the walk over what is left of its text. Assumes nothing.
use Prim.Native.Nat.{ℕ, suc, ◌+◌, ◌-◌, ◌≤◌, ◌<◌, min}
use Rattle.block.specs.NamesHeld.{name_of}
use Rattle.emit.proofs.PutLaws.{puts-past}
use Rattle.emit.specs.Puts.{Puts, last_place}
use Rattle.lexer.proofs.Basics.{by-test, not-both}
use Rattle.lexer.proofs.ListLaws.{take_next}
use Rattle.lexer.proofs.NextBytes.{front-left}
use Rattle.lexer.specs.Base.{pick}
use Rattle.lexer.specs.ByteBlocks.{is_plain}
use Rattle.lexer.specs.Bytes.{left, front_at}
use Rattle.lexer.specs.PlainWords.{PlainWord, part}
use Rattle.lexer.specs.Stored.{word_of}
use Rattle.lexer.specs.Words.{spaced}
use Rattle.lexer.specs.declared.Cursor.{Cursor}
use Rattle.reading.specs.Pieces.{name_piece}
use Rattle.record.specs.Spell.{escape, escaped}
use borrow.Author.Tests.{ne_eqb}
use lib.Dec.{eqb}
use lib.ListN.{length, get_or, drop, length-append, length-drop}
use lib.Seq.{get_or-drop, get_or-take, length-take-le}
use mathlib.Core.Bool.{true}
use mathlib.Core.List.{List, [], ◌∷◌, ◌++◌, append_assoc}
use mathlib.Core.Path.{◌≡◌, refl, ◌∙◌}
use native.Mathlib.Omega.{arith}

-- A byte of a name, escaped.
abbrev pub name_byte : ℕ → List ℕ
name_byte b = escape (pick (eqb b 95) 32 b)

module _ (b : ℕ) (behind : List ℕ) where
  pub byte-blank : b ≡ 95 → 32 ∷ behind ≡ name_byte b ++ behind
  unfolding escape pick
  byte-blank e = rw e

  pub byte-newline : b ≡ 10 → 92 ∷ 48 ∷ behind ≡ name_byte b ++ behind
  unfolding escape pick
  byte-newline e = rw e

  pub byte-backslash : b ≡ 92 → 92 ∷ 49 ∷ behind ≡ name_byte b ++ behind
  unfolding escape pick
  byte-backslash e = rw e

  pub byte-plain : (b ≡ 95 → ⊥) → (b ≡ 10 → ⊥) → (b ≡ 92 → ⊥) → b ∷ behind ≡ name_byte b ++ behind
  unfolding escape pick
  byte-plain u l s = rw (ne_eqb b 95 u, ne_eqb b 10 l, ne_eqb b 92 s)

-- What is left of a name's text, escaped.
abbrev pub text_piece : List ℕ → List ℕ → List ℕ
text_piece l behind = escaped (spaced l) ++ behind

pub text-next : (l : List ℕ) (b : ℕ) (r behind : List ℕ) → l ≡ b ∷ r → text_piece l behind ≡ name_byte b ++ text_piece r behind
unfolding escaped spaced
text-next l b r behind e = rw e (append_assoc (name_byte b) (escaped (spaced r)) behind)

pub text-end : (l behind : List ℕ) → l ≡ [] → text_piece l behind ≡ behind
unfolding escaped spaced
text-end l behind e = rw e

-- From its front on it is the name.
pub text-name : (text starts : List ℕ) (i start : ℕ) (c : Cursor) (behind : List ℕ) → start ≡ get_or starts i 0 → c ≡ front_at text start
    → text_piece (left text c) behind ≡ name_piece text starts i behind
unfolding name_piece name_of word_of
text-name text starts i start c behind s e = rw (front-left text start c e, s)

-- So it is where the word is told by its bytes.
pub plain-name : (text starts : List ℕ) (i start end : ℕ) (behind : List ℕ) → start ≡ get_or starts i 0 → PlainWord text start end
    → text_piece (part text start end) behind ≡ name_piece text starts i behind
unfolding name_piece name_of word_of
plain-name text starts i start end behind s w = rw (← s, w.told) refl

-- Plain bytes are not escaped, so that each takes one byte.
plain-short : (b : ℕ) → is_plain b ≡ true → length (name_byte b) ≡ 1
unfolding escape pick is_plain
plain-short b t = by-test (eqb b 95) (λ e. rw e refl) (λ f. rw (f, ne_eqb b 10 (λ e. not-both refl (rw e at t)), ne_eqb b 92 (λ e. not-both refl (rw e at t))) refl)

names-short : (l : List ℕ) → ((k : ℕ) → k < length l → is_plain (get_or l k 0) ≡ true) → length (escaped (spaced l)) ≡ length l
unfolding escaped spaced
names-short [] each = refl
names-short (b ∷ r) each = length-append (name_byte b) (escaped (spaced r)) ∙ rw (plain-short b (each 0 (omega arith)), names-short r (λ k h. each (suc k) (omega arith))) (omega arith)

plain-size : (text : List ℕ) (start end : ℕ) → PlainWord text start end → length (escaped (spaced (part text start end))) ≡ end - start
plain-size text start end w =
    let within = w.within in
    let size : length (part text start end) ≡ end - start = length-take-le (end - start) (drop start text) (rw (length-drop start text) (omega arith)) in
    names-short (part text start end) (λ k h. rw (get_or-take (end - start) (drop start text) k 0 (omega (arith, size)), get_or-drop start text k 0) (w.each k (omega (arith, size)))) ∙ size

-- So the place behind such a name, of which nothing has room, is known.
pub name-past : (text : List ℕ) (start end : ℕ) (buffer : List ℕ) (n next : ℕ) → PlainWord text start end → length buffer ≤ n → (next ≡ min last_place (n + (end - start))) × (n ≤ next)
    → Puts buffer n (text_piece (part text start end)) buffer next
name-past text start end buffer n next w h e = puts-past buffer n (escaped (spaced (part text start end))) next h (rw (plain-size text start end w) e)

-- Bytes of a name one after another.
pub bytes_next : (text : List ℕ) (i end : ℕ) (behind : List ℕ) → i < end → i < length text → text_piece (part text i end) behind ≡ name_byte (get_or text i 0) ++ text_piece (part text (i + 1) end) behind
bytes_next text i end behind h k = text-next (part text i end) (get_or text i 0) (part text (i + 1) end) behind (take_next text i end h k)

pub bytes-end : (text : List ℕ) (i end : ℕ) (behind : List ℕ) → end ≤ i → text_piece (part text i end) behind ≡ behind
bytes-end text i end behind h = let none : end - i ≡ 0 = omega arith in text-end (part text i end) behind (rw none refl)
