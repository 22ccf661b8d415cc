-- The definition of a sequential matrix along the walk of the code: behind the rows that are stored, the words from here on come to what all of them
-- come to. Assumes nothing.
use Rattle.std.specs.Prelude.{Some, None, Ok, Err, Option, Result}
use Prim.Native.Nat.{ℕ, ◌+◌, ◌≤◌, ◌<◌}
use Rattle.block.proofs.WalkLaws.{words-newline, words-next, words-end}
use Rattle.block.specs.Chunk.{Row, plain, within}
use Rattle.block.specs.Codes.{Coded}
use Rattle.block.specs.Commands.{newline, words}
use Rattle.block.specs.Format.{Format}
use Rattle.block.specs.Outcome.{Outcome, done, refused, then, fold}
use Rattle.block.specs.Reading.{Taxon}
use Rattle.block.specs.Sequential as S
use Rattle.lexer.proofs.Basics.{by-test}
use Rattle.lexer.proofs.SmallBytes.{Small}
use Rattle.lexer.specs.Base.{pick}
use Rattle.lexer.specs.Stored.{word_of, range}
use Rattle.lexer.specs.declared.refusal.Refusal.{Refusal}
use Rattle.matrix.proofs.RowWalk.{state, Grown, Follows, turn-follows}
use Rattle.matrix.proofs.StoredRows.{rows_more, rows-names}
use Rattle.matrix.specs.Lines.{stored, names_stored, rows_sequential}
use Rattle.matrix.specs.RowShape.{shape}
use Rattle.matrix.specs.SequentialShape.{turn_shape, open_shape, end_shape, sequenced}
use Rattle.matrix.specs.declared.matrix.Chunk.{Chunk}
use Rattle.matrix.specs.declared.matrix.Turned.{Turned}
use Rattle.lexer.specs.Refusals.{fault}
use Rattle.lexer.specs.declared.Fault.{Fault}
use borrow.Author.Tests.{eqb-true}
use lib.Dec.{eqb}
use lib.ListN.{length}
use mathlib.Core.Bool.{true, false}
use mathlib.Core.List.{List, [], ◌∷◌, ◌++◌}
use mathlib.Core.Path.{◌≡◌, refl, ◌∙◌}
use native.Mathlib.Omega.{arith}

module _ (text work : List ℕ) (from to taxa n head : ℕ) (f : Format) where
  abbrev sh : S.Shape
  sh = record { taxa = taxa; characters = n; format = f; head = head }

  -- The rows that are stored, and the state behind them.
  abbrev rows : List ℕ → List Taxon
  rows starts = rows_sequential text work f n to starts

  abbrev behind : List ℕ → Row → Option (ℕ × Chunk) → S.Sequence
  behind starts row line = state text work f n to (rows starts) row line

  abbrev whole : Outcome (List Taxon)
  whole = S.sequential sh (words (range text work from to))

  pub record Walked (starts : List ℕ) (line : Option (ℕ × Chunk)) (i : ℕ) : Type 0 where
    pub row : Row
    pub grown : Grown text work f n to line row i
    pub rest : then (fold (S.sequential_turn sh) (behind starts row line) (words (range text work i to))) (S.sequential_end sh) ≡ whole

  pub walked_start : Walked [] None from
  unfolding rows_sequential S.sequential
  walked_start = record { row = plain []; grown = tt; rest = refl }

  module _ (starts : List ℕ) (line : Option (ℕ × Chunk)) (i : ℕ) (k : Walked starts line i) where
    module _ (h : i < to) where
      grown-newline : newline (word_of text work i) ≡ true → (line : Option (ℕ × Chunk)) (row : Row) → Grown text work f n to line row i → Grown text work f n to line row (i + 1)
      grown-newline e None row g = tt
      grown-newline e (Some (s, c)) row g = record { shaped = g.shaped; cells = rw (words-newline text work i to h e) at g.cells }

      pub walked-newline : newline (word_of text work i) ≡ true → Walked starts line (i + 1)
      walked-newline e = record { row = k.row; grown = grown-newline e line k.row k.grown; rest = rw (words-newline text work i to h e) at k.rest }

      -- A word, by what it comes to for the code.
      module _ {codes : List ℕ} (c : Coded f codes) (few : length f.symbols ≤ 74) (small : Small text) (word : newline (word_of text work i) ≡ false) where
        abbrev turn : Outcome Turned
        turn = turn_shape codes taxa n (names_stored text work starts) line (word_of text work i)

        follows : (t : Outcome Turned) → turn ≡ t → Follows text work f n to (rows starts) i t (S.sequential_turn sh (behind starts k.row line) (word_of text work i))
        follows t e =
            rw (← e, ← rows-names text work f n to starts)
            (turn-follows text work f n to codes taxa head (rows starts) i c few small h word line k.row k.grown)

        pub walked_on : (next : Option (ℕ × Chunk)) → turn ≡ done (Turned.On next) → Walked starts next (i + 1)
        unfolding fold then
        walked_on next e = let w = follows (done (Turned.On next)) e in record { row = w.0; grown = w.2; rest = rw (words-next text work i to h word, w.1) at k.rest }

        pub walked-full : (s : ℕ) → turn ≡ done (Turned.Full s) → Walked (starts ++ (s ∷ [])) None (i + 1)
        unfolding fold then
        walked-full s e =
            let next = rw (words-next text work i to h word, follows (done (Turned.Full s)) e) at k.rest in
            record { row = plain []; grown = tt; rest = rw (rows_more text work f n to starts s) next }

        pub walked-refused : (m : Refusal) (j : ℕ) → turn ≡ refused m j → refused m j ≡ whole
        unfolding fold then
        walked-refused m j e = rw (words-next text work i to h word, follows (refused m j) e) at k.rest

    -- At the end the code, which has counted the rows and has them in its own work memory, answers as the definition does.
    module _ (now : List ℕ) (at count : ℕ) (counted : length (rows starts) ≡ count) (same : rows_sequential text now f n to (stored now at count) ≡ rows starts) where
      end-follows : (line : Option (ℕ × Chunk)) (row : Row) → Grown text work f n to line row i
          → sequenced text now at f n to (end_shape taxa head count line) ≡ S.sequential_end sh (behind starts row line)
      unfolding sequenced end_shape open_shape shape S.sequential_end S.row_open pick
      end-follows None row g = rw counted (by-test (eqb count taxa) (λ e. rw (e, same)) (λ e. rw e))
      end-follows (Some (s, c)) row g = rw (← g.shaped) (go row)
        where
          go : (row : Row) → sequenced text now at f n to (open_shape s (shape row)) ≡ S.row_open s row
          go (plain cells) = refl
          go (within cells b j set) = refl

      pub walked_end : to ≤ i → sequenced text now at f n to (end_shape taxa head count line) ≡ whole
      unfolding fold then
      walked_end h = end-follows line k.row k.grown ∙ rw (words-end text work i to h) at k.rest

-- A count that is answered is that of the rows, and as many as there are to be.
done-rows : {a b : ℕ} → ◌≡◌ {A = Result ℕ (Fault ℕ)} (Ok a) (Ok b) → b ≡ a
done-rows {a} {b} h = cc

pub refused-rows : {X : Type 0} {m : Refusal} {i b : ℕ} → Err (fault m i) ≡ Ok b → X
refused-rows {X} {m} {i} {b} h = absurd (let z : ◌≡◌ {A = ℕ} 0 1 = cc in omega arith)

pub end-count : (taxa head rows : ℕ) (line : Option (ℕ × Chunk)) (m : ℕ) → end_shape taxa head rows line ≡ Ok m → (m ≡ rows) × (rows ≡ taxa)
unfolding end_shape open_shape pick
end-count taxa head rows None m e = by-test (eqb rows taxa) (λ t. (done-rows (rw t at e), eqb-true rows taxa t)) (λ t. refused-rows (rw t at e))
end-count taxa head rows (Some (s, (Chunk.Plain c))) m e = refused-rows e
end-count taxa head rows (Some (s, (Chunk.Within c b j empty))) m e = refused-rows e
