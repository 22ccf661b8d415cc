-- Which words have cells, by the kinds of their tokens; and the cells and states of a word. Assumes nothing.
use Prim.Native.Nat.{ℕ}
use Rattle.lexer.specs.Base.{pick}
use Rattle.lexer.specs.Lexing.{token_at}
use Rattle.lexer.specs.PlainWords.{PlainWord, part}
use Rattle.lexer.specs.Stored.{word_of}
use Rattle.lexer.specs.Words.{Numbered, punct, is_word}
use Rattle.lexer.specs.declared.Kind.{Kind}
use Rattle.reading.specs.CodedCells.{RowPut, cells_coded, has_cells, word_coded}
use Rattle.reading.specs.declared.cells.Putting.{Putting}
use lib.ListN.{get_or}
use mathlib.Core.Bool.{true, false}
use mathlib.Core.List.{List, []}
use mathlib.Core.Path.{◌≡◌, sym, ap, ◌∙◌}

module _ (text work : List ℕ) (i start : ℕ) (at : start ≡ get_or work i 0) where
  pub has_word : Kind.Word ≡ (token_at text start).kind → true ≡ has_cells (word_of text work i)
  unfolding has_cells word_of is_word
  has_word e = rw (← at, ← e)

  pub has_other : is_word (token_at text start).kind ≡ false → punct 43 (word_of text work i) ≡ has_cells (word_of text work i)
  unfolding has_cells word_of
  has_other other = rw (← at, other)

  -- A word that has cells has those of its text; any other has none.
  pub word_some : (codes : List ℕ) → has_cells (word_of text work i) ≡ true → cells_coded codes (token_at text start).text ≡ word_coded codes (word_of text work i)
  unfolding word_coded word_of pick
  word_some codes h = rw (h, at)

  -- So has one that is told by its bytes.
  word-plain : (codes : List ℕ) (end : ℕ) → PlainWord text start end → cells_coded codes (part text start end) ≡ word_coded codes (word_of text work i)
  word-plain codes end p =
      ap (λ t. cells_coded codes t.text) (sym p.told) ∙ word_some codes (sym (has_word (sym (ap (λ t. t.kind) p.told))))

  pub plain-put : (codes : List ℕ) (end : ℕ) → PlainWord text start end → {a b : List ℕ} {row next : Putting} → RowPut a row (cells_coded codes (part text start end)) b next
      → RowPut a row (word_coded codes (word_of text work i)) b next
  plain-put codes end p q = rw (word-plain codes end p) at q

pub word_none : (codes : List ℕ) (w : Numbered) → has_cells w ≡ false → word_coded codes w ≡ []
unfolding word_coded pick
word_none codes w h = rw h
