-- The names of stored rows, and how a row begins behind them. Assumes nothing.
use Rattle.block.specs.Outcome.{Outcome, done, refused}
use Rattle.std.specs.Prelude.{Some}
use Prim.Native.Nat.{ℕ, suc, ◌+◌, ◌≤◌, ◌<◌}
use Rattle.block.specs.Names.{known}
use Rattle.lexer.proofs.LabelLaws.{label-some, label-none}
use Rattle.lexer.proofs.ListLaws.{drop-next}
use Rattle.lexer.specs.Base.{pick, given}
use Rattle.lexer.specs.Stored.{word_of}
use Rattle.lexer.specs.Words.{label}
use Rattle.lexer.specs.declared.refusal.Refusal.{Refusal}
use Rattle.matrix.specs.Lines.{name_at, stored, names_stored}
use Rattle.matrix.specs.SequentialShape.{named_shape, begun_shape}
use Rattle.matrix.specs.declared.matrix.Chunk.{Chunk}
use Rattle.matrix.specs.declared.matrix.Turned.{Turned}
use borrow.Author.Tests.{eq-eqb, ne_eqb}
use lib.ListN.{length, get_or, drop, length-map, length-drop}
use lib.Seq.{length-take-le}
use mathlib.Core.Bool.{true, false}
use mathlib.Core.List.{List, ◌∷◌}
use mathlib.Core.Path.{◌≡◌, ◌∙◌}
use native.Mathlib.Omega.{arith}

-- So many numbers from an index on: the first of them, and those behind it.
pub stored_next : (work : List ℕ) (k m : ℕ) → k < length work → stored work k (suc m) ≡ get_or work k 0 ∷ stored work (k + 1) m
unfolding stored
stored_next work k m h = rw (drop-next work k h)

-- So many stored numbers, and the names of so many stored rows, are as many.
pub stored-count : (work : List ℕ) (at rows : ℕ) → at + rows ≤ length work → length (stored work at rows) ≡ rows
unfolding stored
stored-count work at rows h = length-take-le rows (drop at work) (omega (arith, length-drop at work))

pub names-count : (text work : List ℕ) (at rows : ℕ) → at + rows ≤ length work → length (names_stored text work (stored work at rows)) ≡ rows
unfolding names_stored
names-count text work at rows h = length-map (stored work at rows) (name_at text work) ∙ stored-count work at rows h

-- A row begins, or the word is refused.
module _ (text work : List ℕ) (at rows i taxa : ℕ) (room : at + rows ≤ length work) where
  abbrev Begun : Outcome Turned → Type 0
  Begun r = r ≡ begun_shape taxa (names_stored text work (stored work at rows)) (word_of text work i)

  pub begun_all : rows ≡ taxa → Begun (refused Refusal.Count i)
  unfolding begun_shape word_of pick
  begun_all e = rw (names-count text work at rows room, eq-eqb rows taxa e)

  module _ (fewer : rows ≡ taxa → ⊥) where
    pub begun-nameless : given (label (word_of text work i)) ≡ false → Begun (refused Refusal.NotName i)
    unfolding begun_shape named_shape word_of pick
    begun-nameless e = rw (names-count text work at rows room, ne_eqb rows taxa fewer, label-none (word_of text work i) e)

    module _ (name : given (label (word_of text work i)) ≡ true) where
      pub begun-twice : known (name_at text work i) (names_stored text work (stored work at rows)) ≡ true → Begun (refused Refusal.TaxonTwice i)
      unfolding begun_shape named_shape name_at word_of pick
      begun-twice e = rw (names-count text work at rows room, ne_eqb rows taxa fewer, label-some (word_of text work i) name, e)

      pub begun-on : known (name_at text work i) (names_stored text work (stored work at rows)) ≡ false → Begun (done (Turned.On (Some (i, (Chunk.Plain 0)))))
      unfolding begun_shape named_shape name_at word_of pick
      begun-on e = rw (names-count text work at rows room, ne_eqb rows taxa fewer, label-some (word_of text work i) name, e)
