-- The next byte of quoted text and of a mark by the tests that the code makes, and the next byte by the mode of the cursor. Assumes nothing.
use Rattle.std.specs.Prelude.{Some, None}
use Prim.Native.Nat.{ℕ, ◌+◌, ◌≤◌, ◌<◌}
use Rattle.lexer.proofs.ClassLaws.{next1-told}
use Rattle.lexer.proofs.ListLaws.{drop-next}
use Rattle.lexer.specs.Base.{pick}
use Rattle.lexer.specs.Bytes.{cursor, text_item, quoted_item, string_item, mark_item, item_of, next_item}
use Rattle.lexer.specs.Classes.{next1}
use Rattle.lexer.specs.declared.Cursor.{Cursor}
use Rattle.lexer.specs.declared.Mode.{Mode}
use borrow.Author.Tests.{eq-eqb, ne_eqb}
use lib.Dec.{eqb}
use lib.ListN.{length, get_or, drop, drop_of_length-le}
use mathlib.Core.Bool.{true, false}
use mathlib.Core.List.{List}
use mathlib.Core.Path.{◌≡◌, refl, ◌∙◌}
use native.Mathlib.Omega.{arith}

module _ (text : List ℕ) (i : ℕ) (h : i < length text) where
  next-is : (b : ℕ) → eqb 0 b ≡ false → get_or text (i + 1) 0 ≡ b → next1 b (drop (i + 1) text) ≡ true
  next-is b z e = next1-told text (i + 1) b z ∙ eq-eqb (get_or text (i + 1) 0) b e

  next-other : (b : ℕ) → eqb 0 b ≡ false → (get_or text (i + 1) 0 ≡ b → ⊥) → next1 b (drop (i + 1) text) ≡ false
  next-other b z n = next1-told text (i + 1) b z ∙ ne_eqb (get_or text (i + 1) 0) b n

  two-on : i + 1 + 1 ≡ i + 2
  two-on = omega arith

  -- A byte of quoted text: a CR LF, another CR, or the byte as it is
  module _ (m : Mode) where
    pub text-line : get_or text i 0 ≡ 13 → get_or text (i + 1) 0 ≡ 10 → Some (10, (cursor m (i + 1 + 1))) ≡ text_item m i (drop i text)
    unfolding text_item pick
    text-line e n = rw (drop-next text i h, eq-eqb (get_or text i 0) 13 e, next-is 10 refl n, two-on)

    pub text-return : get_or text i 0 ≡ 13 → (get_or text (i + 1) 0 ≡ 10 → ⊥) → Some (10, (cursor m (i + 1))) ≡ text_item m i (drop i text)
    unfolding text_item pick
    text-return e n = rw (drop-next text i h, eq-eqb (get_or text i 0) 13 e, next-other 10 refl n)

    pub text-plain : (get_or text i 0 ≡ 13 → ⊥) → Some ((get_or text i 0), (cursor m (i + 1))) ≡ text_item m i (drop i text)
    unfolding text_item pick
    text-plain n = rw (drop-next text i h, ne_eqb (get_or text i 0) 13 n)

  -- Single-quoted text: a quote and another, one quote, or another byte
  pub quoted-twice : get_or text i 0 ≡ 39 → get_or text (i + 1) 0 ≡ 39 → Some (39, (cursor Mode.Quoted (i + 2))) ≡ quoted_item i (drop i text)
  unfolding quoted_item pick
  quoted-twice e n = rw (drop-next text i h, eq-eqb (get_or text i 0) 39 e, next-is 39 refl n)

  pub quoted-once : get_or text i 0 ≡ 39 → (get_or text (i + 1) 0 ≡ 39 → ⊥) → None ≡ quoted_item i (drop i text)
  unfolding quoted_item pick
  quoted-once e n = rw (drop-next text i h, eq-eqb (get_or text i 0) 39 e, next-other 39 refl n)

  pub quoted-text : (get_or text i 0 ≡ 39 → ⊥) → text_item Mode.Quoted i (drop i text) ≡ quoted_item i (drop i text)
  unfolding quoted_item pick
  quoted-text n = rw (drop-next text i h, ne_eqb (get_or text i 0) 39 n)

  -- Double-quoted text: its quote, or another byte
  pub string-quote : get_or text i 0 ≡ 34 → None ≡ string_item i (drop i text)
  unfolding string_item pick
  string-quote e = rw (drop-next text i h, eq-eqb (get_or text i 0) 34 e)

  pub string-text : (get_or text i 0 ≡ 34 → ⊥) → text_item Mode.String i (drop i text) ≡ string_item i (drop i text)
  unfolding string_item pick
  string-text n = rw (drop-next text i h, ne_eqb (get_or text i 0) 34 n)

  -- A mark
  pub mark-here : Some ((get_or text i 0), (cursor (Mode.Comment 0) (i + 1))) ≡ mark_item i (drop i text)
  unfolding mark_item
  mark-here = rw (drop-next text i h)

-- Past the text there is none.
module _ (text : List ℕ) (i : ℕ) (h : length text ≤ i) where
  pub quoted-past : None ≡ quoted_item i (drop i text)
  unfolding quoted_item
  quoted-past = rw (drop_of_length-le text h)

  pub string-past : None ≡ string_item i (drop i text)
  unfolding string_item
  string-past = rw (drop_of_length-le text h)

  pub mark-past : None ≡ mark_item i (drop i text)
  unfolding mark_item
  mark-past = rw (drop_of_length-le text h)

-- The next byte by the mode, which is a token's kind or one of the others.
pub next-mode : (text : List ℕ) (c : Cursor) (m : Mode) → c.mode ≡ m → item_of m c.at (drop c.at text) ≡ next_item text c
unfolding next_item
next-mode text c m e = rw e

pub next-over : (text : List ℕ) (c : Cursor) → (c.mode ≡ Mode.Word → ⊥) → (c.mode ≡ Mode.Quoted → ⊥) → (c.mode ≡ Mode.String → ⊥) → (c.mode ≡ Mode.Between → ⊥)
    → None ≡ next_item text c
unfolding next_item item_of
next-over text c w q s b = go c.mode w q s b
  where
    go : (m : Mode) → (m ≡ Mode.Word → ⊥) → (m ≡ Mode.Quoted → ⊥) → (m ≡ Mode.String → ⊥) → (m ≡ Mode.Between → ⊥) → None ≡ item_of m c.at (drop c.at text)
    go Mode.Between w q s b = absurd (b refl)
    go Mode.Word w q s b = absurd (w refl)
    go Mode.Quoted w q s b = absurd (q refl)
    go Mode.Closing w q s b = refl
    go Mode.String w q s b = absurd (s refl)
    go (Mode.Comment d) w q s b = refl
    go (Mode.WordComment d) w q s b = refl
