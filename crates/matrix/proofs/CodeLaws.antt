-- The cells of a word are told by their codes: how many they are, and whether all are states. Assumes nothing.
use Rattle.std.specs.Prelude.{Some, None}
use Prim.Native.Nat.{ℕ, zero, suc, ◌+◌, ◌≤◌, ◌<◌}
use Rattle.block.proofs.FormatCells.{cell-each}
use Rattle.block.specs.Cell.{Cell, state, uncertain, polymorphic, missing, gap}
use Rattle.block.specs.Chunk.{cell, before, cells_of, with_state, only_states}
use Rattle.block.specs.Codes.{bit_of, bits_of, code_of, Coded}
use Rattle.block.specs.Dna.{dna_letter, dna_cell}
use Rattle.block.specs.Format.{Format}
use Rattle.lexer.proofs.Basics.{and-true, and_assoc, all_under, under_at}
use Rattle.lexer.proofs.SmallBytes.{Small}
use Rattle.lexer.specs.Base.{pick, given, lower}
use Rattle.matrix.specs.RowShape.{coded}
use Rattle.matrix.proofs.ShapeLaws.{counted}
use Rattle.std.specs.Prelude as Std
use borrow.Author.Tests.{ltb-true, lt-ltb, le-ltb, ne_eqb}
use lib.Dec.{eqb, ltb}
use lib.ListN.{length, get_or}
use mathlib.Core.Bool.{Bool, true, false, ◌&&◌, false≢true}
use mathlib.Core.List.{List, [], ◌∷◌}
use mathlib.Core.Option.{Option, none, some}
use mathlib.Core.Path.{◌≡◌, refl, ◌∙◌}
use native.Mathlib.Nat.{add-zero, zero-add}
use native.Mathlib.Omega.{arith}

-- A code tells this cell from the others: a state's is below 96, the bits of a set are four, and no set is polymorphic.
told : Option Cell → Bool
told none = true
told (some (state i)) = ltb i 96
told (some (uncertain s)) = ltb (bits_of s) 16
told (some (polymorphic s)) = false
told (some missing) = true
told (some gap) = true

abbrev Told : Option Cell → Type 0
Told o = told o ≡ true

module _ (f : Format) (few : length f.symbols ≤ 74) where
  cell-told : (b : ℕ) → b < 256 → Told (cell f b)
  unfolding all_under dna_cell dna_letter lower pick told bits_of bit_of
  cell-told b h = cell-each f Told refl (λ i l. lt-ltb i 96 (omega arith)) refl refl b (under_at (λ b. told (dna_cell b)) 256 b refl h)

-- What a code says of its cell: that it is one, and whether it is a state.
record Tells (c : Cell) : Type 0 where
  is_some : eqb (code_of (some c)) 255 ≡ false
  states : (cs : List Cell) → given (only_states (c ∷ cs)) ≡ ltb (code_of (some c)) 96 && given (only_states cs)

tells : (c : Cell) → Told (some c) → Tells c
unfolding told code_of only_states given with_state
tells (state i) h = let l = ltb-true i 96 h in record { is_some = ne_eqb i 255 (λ e. omega arith); states = λ cs. rw h (go (only_states cs)) }
  where
    go : (o : Option (List ℕ)) → given (with_state i o) ≡ given o
    go none = refl
    go (some s) = refl
tells (uncertain s) h =
    let l = ltb-true (bits_of s) 16 h in
    record { is_some = ne_eqb (96 + bits_of s) 255 (λ e. omega arith); states = λ cs. rw (le-ltb (96 + bits_of s) 96 (omega arith)) }
tells (polymorphic s) h = absurd (false≢true h)
tells missing h = record { is_some = refl; states = λ cs. refl }
tells gap h = record { is_some = refl; states = λ cs. refl }

-- Behind so many cells, of which all are states or not.
counted-from : ℕ → Bool → Option (List Cell) → Std.Option (ℕ × Bool)
counted-from n all none = None
counted-from n all (some cs) = Some ((n + length cs), (all && given (only_states cs)))

module _ (f : Format) (codes : List ℕ) (k : Coded f codes) (few : length f.symbols ≤ 74) where
  one_more : (n : ℕ) (all : Bool) (o : Option Cell) (more : Option (List Cell)) → Told o
      → pick (eqb (code_of o) 255) None (counted-from (n + 1) (all && ltb (code_of o) 96) more) ≡ counted-from n all (before o more)
  unfolding counted-from before code_of pick
  one_more n all none more h = refl
  one_more n all (some c) none h = rw (tells c h).is_some
  one_more n all (some c) (some cs) h =
      let count : n + 1 + length cs ≡ n + suc (length cs) = omega arith in
      rw ((tells c h).is_some, (tells c h).states cs, count, and_assoc all (ltb (code_of (some c)) 96) (given (only_states cs)))

  from : (n : ℕ) (all : Bool) (bytes : List ℕ) → Small bytes → coded codes n all bytes ≡ counted-from n all (cells_of f bytes)
  unfolding coded cells_of counted-from only_states given
  from n all [] s = rw (add-zero n, and-true all)
  from n all (b ∷ r) s = rw (from (n + 1) (all && ltb (get_or codes b 0) 96) r (λ i. s (suc i)), k.code b (s zero)) (one_more n all (cell f b) (cells_of f r) (cell-told f few b (s zero)))

  -- The symbols of a word by their codes are counted as its cells are.
  pub coded-counted : (bytes : List ℕ) → Small bytes → coded codes 0 true bytes ≡ counted (cells_of f bytes)
  unfolding counted counted-from
  coded-counted bytes s = from 0 true bytes s ∙ go (cells_of f bytes)
    where
      go : (o : Option (List Cell)) → counted-from 0 true o ≡ counted o
      go none = refl
      go (some cs) = rw (zero-add (length cs))
