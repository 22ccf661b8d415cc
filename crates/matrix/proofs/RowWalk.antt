-- One word of a sequential matrix, as the code judges it by shapes and as it is defined. Assumes nothing.
use Rattle.std.specs.Prelude.{Some, None}
use Prim.Native.Nat.{ℕ, ◌+◌, ◌≤◌, ◌<◌}
use Rattle.block.proofs.ChunkSound.{some_inj}
use Rattle.block.proofs.RowsSound.{length-names}
use Rattle.block.proofs.WalkLaws.{words-next}
use Rattle.block.specs.Chunk.{Row, plain, within, chunk}
use Rattle.block.specs.Codes.{Coded}
use Rattle.block.specs.Commands.{newline, words}
use Rattle.block.specs.Format.{Format}
use Rattle.block.specs.Names.{known}
use Rattle.block.specs.Outcome.{Outcome, done, refused, then, need, mapped}
use Rattle.block.specs.Reading.{Taxon}
use Rattle.block.specs.Sequential as S
use Rattle.lexer.proofs.Basics.{by-test}
use Rattle.lexer.proofs.LabelLaws.{label-some}
use Rattle.lexer.proofs.SmallBytes.{Small, token-small}
use Rattle.lexer.specs.Base.{pick, given}
use Rattle.lexer.specs.Stored.{word_of, range}
use Rattle.lexer.specs.Words.{label}
use Rattle.lexer.specs.declared.refusal.Refusal.{Refusal}
use Rattle.matrix.proofs.CodeLaws.{coded-counted}
use Rattle.matrix.proofs.ShapeLaws.{chunk-shaped}
use Rattle.matrix.proofs.TakenLaws.{taken-good}
use Rattle.matrix.specs.Lines.{name_at, row_at}
use Rattle.matrix.specs.RowShape.{shape, chunk_shape}
use Rattle.matrix.specs.SequentialShape.{named_shape, begun_shape, grown_shape, turn_shape}
use Rattle.matrix.specs.Taken.{taken, row_after, row_taken}
use Rattle.matrix.specs.declared.matrix.Chunk.{Chunk}
use Rattle.matrix.specs.declared.matrix.Turned.{Turned}
use Rattle.std.specs.Prelude as Std
use borrow.Author.Tests.{ltb-false, eqb-true, eqb-false, le-leb, lt-leb}
use lib.Dec.{eqb, ltb}
use lib.ListN.{length, get_or}
use mathlib.Core.Bool.{false}
use mathlib.Core.List.{List, [], ◌∷◌, ◌++◌}
use mathlib.Core.Option.{Option, none, some}
use mathlib.Core.Path.{◌≡◌, refl, sym, ap, ◌∙◌}
use native.Mathlib.Omega.{arith}

module _ (text work : List ℕ) (f : Format) (n to : ℕ) where
  -- The state in which the definition is: in a row, this is the row so far.
  abbrev pub state : List Taxon → Row → Std.Option (ℕ × Chunk) → S.Sequence
  state rows row None = S.between rows
  state rows row (Some (s, c)) = S.inside rows s (name_at text work s) row

  -- A row so far has this shape, and the words from here on give the cells that all of its words give.
  pub record Growing (s : ℕ) (c : Chunk) (row : Row) (i : ℕ) : Type 0 where
    pub shaped : shape row ≡ c
    pub cells : row_taken f n row (words (range text work i to)) ≡ row_taken f n (plain []) (words (range text work (s + 1) to))

  abbrev pub Grown : Std.Option (ℕ × Chunk) → Row → ℕ → Type 0
  Grown None row i = Unit {0}
  Grown (Some (s, c)) row i = Growing s c row i

  -- What a word comes to for the code, behind these rows, it comes to by the definition.
  abbrev pub Follows : List Taxon → ℕ → Outcome Turned → Outcome S.Sequence → Type 0
  Follows rows i (done (Turned.On line)) o = (row : Row) × (o ≡ done (state rows row line)) × Grown line row (i + 1)
  Follows rows i (done (Turned.Full s)) o = o ≡ done (S.between (rows ++ (row_at text work f n to s ∷ [])))
  Follows rows i (refused m j) o = o ≡ refused m j

  module _ (codes : List ℕ) (taxa head : ℕ) (rows : List Taxon) (i : ℕ) where
    abbrev sh : S.Shape
    sh = record { taxa = taxa; characters = n; format = f; head = head }

    named-follows : (o : Option (List ℕ)) → label (word_of text work i) ≡ o
        → Follows rows i (named_shape (S.names rows) i o) (then (need o Refusal.NotName i) (S.row_begins rows (word_of text work i)))
    unfolding named_shape then need S.row_begins pick word_of name_at given shape
    named-follows none e = refl
    named-follows (some m) e =
        let name : m ≡ name_at text work i = some_inj (sym e ∙ label-some (word_of text work i) (rw e)) in
        by-test (known m (S.names rows)) (λ t. rw t refl)
        (λ t. rw t (plain [], ap (λ x. done (S.inside rows i x (plain []))) name, record { shaped = refl; cells = refl }))

    begun-follows : Follows rows i (begun_shape taxa (S.names rows) (word_of text work i)) (S.sequential_turn sh (S.between rows) (word_of text work i))
    unfolding begun_shape S.sequential_turn pick word_of
    begun-follows =
        rw (length-names rows)
        (by-test (eqb (length rows) taxa) (λ t. rw t refl) (λ t. rw t (named-follows (label (word_of text work i)) refl)))

    module _ (k : Coded f codes) (few : length f.symbols ≤ 74) (small : Small text) (within_end : i < to) (word : newline (word_of text work i) ≡ false) where
      -- a row behind the word
      module _ (s : ℕ) (row : Row) (g : Growing s (shape row) row i) where
        after : row_after n (taken f row (word_of text work i)) (λ next. row_taken f n next (words (range text work (i + 1) to))) ≡ row_taken f n (plain []) (words (range text work (s + 1) to))
        unfolding row_taken
        after = rw (words-next text work i to within_end word) at g.cells

        grown-follows : (o : Outcome Row) → chunk f row (word_of text work i) ≡ o
            → Follows rows i (grown_shape n s i (mapped shape o)) (then o (S.row_grown sh rows s (name_at text work s) (word_of text work i)))
        unfolding grown_shape mapped shape then S.row_grown pick row_at row_after word_of
        grown-follows (refused m j) e = refl
        grown-follows (done (within cells b m set)) e = (within cells b m set, refl, record { shaped = refl; cells = rw (taken-good f row (word_of text work i) (within cells b m set) e) at after })
        grown-follows (done (plain cells)) e =
            by-test (ltb n (length cells)) (λ t. rw t refl)
            (λ t. rw t (by-test (eqb (length cells) n) (λ u. rw u (full (eqb-true (length cells) n u))) (λ u. rw u (more (ltb-false n (length cells) t) (eqb-false (length cells) n u)))))
          where
            behind : row_after n (plain cells) (λ next. row_taken f n next (words (range text work (i + 1) to))) ≡ row_taken f n (plain []) (words (range text work (s + 1) to))
            behind = rw (taken-good f row (word_of text work i) (plain cells) e) at after

            full : length cells ≡ n
                → done (S.between (rows ++ (record { name = name_at text work s; cells = cells } ∷ []))) ≡ done (S.between (rows ++ (row_at text work f n to s ∷ [])))
            full u =
                let all : cells ≡ row_taken f n (plain []) (words (range text work (s + 1) to)) = rw (le-leb n (length cells) (omega arith)) at behind in
                ap (λ x. done (S.between (rows ++ (record { name = name_at text work s; cells = x } ∷ [])))) all

            more : length cells ≤ n → (length cells ≡ n → ⊥) → Follows rows i (done (Turned.On (Some (s, (Chunk.Plain (length cells)))))) (done (S.inside rows s (name_at text work s) (plain cells)))
            more l u = (plain cells, refl, record { shaped = refl; cells = rw (lt-leb n (length cells) (omega (arith, u))) at behind })

      told : (row : Row) → mapped shape (chunk f row (word_of text work i)) ≡ chunk_shape codes (shape row) (word_of text work i)
      unfolding word_of
      told = chunk-shaped f codes (word_of text work i) (coded-counted f codes k few (word_of text work i).token.text (token-small text (get_or work i 0) small))

      -- The word for the code, and by the definition.
      pub turn-follows : (line : Std.Option (ℕ × Chunk)) (row : Row) → Grown line row i
          → Follows rows i (turn_shape codes taxa n (S.names rows) line (word_of text work i)) (S.sequential_turn sh (state rows row line) (word_of text work i))
      unfolding turn_shape S.sequential_turn word_of
      turn-follows None row g = begun-follows
      turn-follows (Some (s, c)) row g =
          rw (← g.shaped, ← told row) (grown-follows s row (record { shaped = refl; cells = g.cells }) (chunk f row (word_of text work i)) refl)
