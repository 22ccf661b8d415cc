-- A line by its shape, as the code judges it: its name, its cells, and the page behind it. Assumes nothing.
use Rattle.std.specs.Option.{unwrap_or}
use Rattle.std.specs.Prelude.{Ok, Err, Result, ⊤}
use Prim.Native.Nat.{ℕ, ◌+◌, ◌*◌, ◌-◌, ◌≤◌, ◌<◌}
use Rattle.block.specs.Commands.{newline}
use Rattle.block.specs.Interleaved.{to_newline}
use Rattle.block.specs.Judged.{judged}
use Rattle.block.specs.Names.{known}
use Rattle.block.specs.Outcome.{done, refused, then, fold, outcome}
use Rattle.lexer.proofs.Basics.{or_right}
use Rattle.lexer.specs.Base.{pick, alike, given}
use Rattle.lexer.specs.Stored.{word_of, range}
use Rattle.lexer.specs.Words.{label}
use Rattle.lexer.specs.declared.refusal.Refusal.{Refusal}
use Rattle.matrix.proofs.LineLaws.{line-next, line-none, line-stops}
use Rattle.matrix.proofs.SymbolCounts.{chunk-size}
use Rattle.matrix.specs.Lines.{name_at, stored, names_stored}
use Rattle.matrix.specs.PagesHeld.{end_count, count_from, name_judged, line_name, misfit, line_grown, page_short, line_shape}
use Rattle.matrix.specs.RowShape.{so_far, chunk_shape}
use Rattle.matrix.specs.declared.interleaved.Pages.{Pages}
use Rattle.matrix.specs.declared.matrix.Chunk.{Chunk}
use Rattle.lexer.specs.declared.Fault.{Fault}
use Rattle.lexer.specs.Refusals.{fault}
use borrow.Author.Tests.{ltb-false}
use lib.Dec.{eqb, ltb}
use lib.ListN.{length, get_or}
use mathlib.Core.Bool.{true, false, ◌||◌, not}
use mathlib.Core.List.{List}
use mathlib.Core.Path.{◌≡◌, refl, sym, ap, ◌∙◌}
use native.Mathlib.Omega.{arith}

-- The name of a line, test by test.
module _ (text work : List ℕ) (at rows : ℕ) (p : Pages) (i : ℕ) where
  abbrev Judges : Result ⊤ (Fault ℕ) → Type 0
  Judges r = r ≡ line_name text work at rows p i

  pub name-none : given (label (word_of text work i)) ≡ false → Judges (Err (fault Refusal.NotName i))
  unfolding line_name name_judged pick word_of
  name-none e = rw e

  module _ (name : given (label (word_of text work i)) ≡ true) where
    module _ (first : p.first ≡ true) where
      pub name-twice : known (name_at text work i) (names_stored text work (stored work at rows)) ≡ true → Judges (Err (fault Refusal.TaxonTwice i))
      unfolding line_name name_judged pick word_of
      name-twice e = rw (name, first, e)

      pub name_new : known (name_at text work i) (names_stored text work (stored work at rows)) ≡ false → Judges (Ok tt)
      unfolding line_name name_judged pick word_of
      name_new e = rw (name, first, e)

    module _ (later : p.first ≡ false) where
      pub name-same : alike (name_at text work i) (name_at text work (get_or work (at + p.row) 0)) ≡ true → Judges (Ok tt)
      unfolding line_name name_judged pick word_of
      name-same e = rw (name, later, e)

      pub name-other : alike (name_at text work i) (name_at text work (get_or work (at + p.row) 0)) ≡ false → Judges (Err (fault Refusal.Row i))
      unfolding line_name name_judged pick word_of
      name-other e = rw (name, later, e)

-- The walk over the tokens of a line: the row so far and the tokens from here on come to what all come to.
pub record Growing (text work codes : List ℕ) (i to : ℕ) (row : Chunk) (j : ℕ) : Type 0 where
  pub small : so_far row ≤ 1048577 * j
  pub rest : count_from codes row (to_newline (range text work j to)) ≡ count_from codes (Chunk.Plain 0) (to_newline (range text work i to))

module _ {text work codes : List ℕ} {i to : ℕ} where
  pub growing-start : Growing text work codes i to (Chunk.Plain 0) i
  unfolding so_far
  growing-start = record { small = omega arith; rest = refl }

  module _ {row : Chunk} {j : ℕ} (k : Growing text work codes i to row j) where
    module _ (h : j < to) where
      pub growing-newline : newline (word_of text work j) ≡ true → end_count row ≡ count_from codes (Chunk.Plain 0) (to_newline (range text work i to))
      unfolding count_from fold then
      growing-newline e = rw (line-stops text work j to h e) at k.rest

      module _ (e : newline (word_of text work j) ≡ false) (r : Result Chunk (Fault ℕ)) (grown : outcome r ≡ chunk_shape codes row (word_of text work j)) where
        pub growing-turn : length text ≤ 1048576 → (next : Chunk) → r ≡ Ok next → Growing text work codes i to next (j + 1)
        unfolding count_from fold then outcome
        growing-turn short next d =
            let one : chunk_shape codes row (word_of text work j) ≡ done next = sym grown ∙ ap outcome d in
            record {
              small = omega (arith, k.small, chunk-size text work codes j row next one);
              rest = rw (line-next text work j to h e, one) at k.rest;
            }

        pub growing-refused : (n : Refusal) (m : ℕ) → r ≡ Err (fault n m) → outcome (Err (fault n m)) ≡ count_from codes (Chunk.Plain 0) (to_newline (range text work i to))
        unfolding count_from fold then outcome
        growing-refused n m d =
            let one : chunk_shape codes row (word_of text work j) ≡ refused n m = sym grown ∙ ap outcome d in
            rw (line-next text work j to h e, one) at k.rest

    pub growing-end : to ≤ j → end_count row ≡ count_from codes (Chunk.Plain 0) (to_newline (range text work i to))
    unfolding count_from fold then
    growing-end h = rw (line-none text work j to h) at k.rest

-- Cells that fit are not too many.
pub grown-room : (characters : ℕ) (p : Pages) (n : ℕ) → p.earlier ≤ characters → misfit characters p n ≡ false → p.earlier + n ≤ characters
unfolding misfit
grown-room characters p n h e =
    let fits = ltb-false (characters - p.earlier) n (or_right (eqb n 0 || not (eqb (unwrap_or p.width n) n)) (ltb (characters - p.earlier) n) e) in
    omega arith

-- A line, test by test.
module _ (text work codes : List ℕ) (at rows taxa characters : ℕ) (p : Pages) (i to : ℕ) where
  abbrev Comes : Result Pages (Fault ℕ) → Type 0
  Comes r = outcome r ≡ line_shape text work codes at rows taxa characters p i to

  pub line-short : page_short text work taxa p i to ≡ true → Comes (Err (fault Refusal.Count i))
  unfolding line_shape outcome pick
  line-short e = rw e

  module _ (enough : page_short text work taxa p i to ≡ false) (r : Result ⊤ (Fault ℕ)) (name : r ≡ line_name text work at rows p i) where
    pub line-unnamed : (n : Refusal) (j : ℕ) → r ≡ Err (fault n j) → Comes (Err (fault n j))
    unfolding line_shape outcome pick then judged
    line-unnamed n j d = rw (enough, ← name, d)

    module _ (good : r ≡ Ok tt) (a : Result ℕ (Fault ℕ)) (cells : outcome a ≡ count_from codes (Chunk.Plain 0) (to_newline (range text work (i + 1) to))) where
      pub line-wrong : (n : Refusal) (j : ℕ) → a ≡ Err (fault n j) → Comes (Err (fault n j))
      unfolding line_shape outcome pick then judged
      line-wrong n j d = rw (enough, ← name, good, ← cells, d)

      pub line-counted : (n : ℕ) → a ≡ Ok n → (l : Result Pages (Fault ℕ)) → outcome l ≡ line_grown taxa characters p i n → Comes l
      unfolding line_shape pick then judged outcome
      line-counted n d l e = e ∙ sym (rw (enough, ← name, good, ← cells, d))
