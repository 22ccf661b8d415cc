-- The rows of whole pages have the names of the first lines, one a row. Assumes nothing.
use Prim.Native.Nat.{ℕ, zero, suc, ◌≤◌, ◌<◌}
use Rattle.block.proofs.OutcomeLaws.{All}
use Rattle.block.proofs.RowsSound.{length-names}
use Rattle.block.specs.Interleaved.{Page}
use Rattle.block.specs.Sequential.{names}
use Rattle.lexer.proofs.Basics.{by-test}
use Rattle.matrix.proofs.BelowLaws.{below_each, below-front, each_below}
use Rattle.matrix.proofs.PageTurns.{Shaped, no_rows}
use Rattle.matrix.proofs.StoredRows.{names-kept}
use Rattle.matrix.specs.Lines.{name_at, stored, names_stored}
use Rattle.matrix.specs.declared.interleaved.Pages.{Pages}
use lib.ListN.{length, take, drop, length-append}
use lib.Seq.{take_at, take-take}
use mathlib.Core.Bool.{true, false}
use mathlib.Core.List.{List, [], ◌∷◌, ◌++◌, map}
use mathlib.Core.Path.{◌≡◌, refl, sym, ap, ◌∙◌}
use native.Mathlib.Omega.{arith}

module _ (taxa : ℕ) (stored : List (List ℕ)) (q : Pages) (p : Page) (k : Shaped taxa stored q p) (whole : length p.below ≡ taxa) where
  pub whole-names : (taxa ≤ length stored) × (names p.below ≡ take taxa stored)
  unfolding names
  whole-names = by-test q.first first later
    where
      first : q.first ≡ true → (taxa ≤ length stored) × (names p.below ≡ take taxa stored)
      first e =
          let rows = (k.new e).0 in
          let none : taxa ≡ 0 = sym whole ∙ ap length rows in
          rw (none, rows) (omega arith, refl)

      later : q.first ≡ false → (taxa ≤ length stored) × (names p.below ≡ take taxa stored)
      later e =
          let z = k.later e in
          let none = no_rows p.above (omega (arith, z.0)) in
          let all : stored ≡ names p.below ++ k.others = rw none at k.named in
          let count : length (names p.below) ≡ taxa = length-names p.below ∙ whole in
          rw all (omega (arith, length-append (names p.below) k.others), sym (take_at (names p.below) k.others taxa count))

-- The first names of stored lines are those of the first lines, where work memory was kept.
map-front : {A B : Type 0} (g : A → B) (n : ℕ) (l : List A) → take n (map g l) ≡ map g (take n l)
map-front g zero l = refl
map-front g (suc n) [] = refl
map-front g (suc n) (a ∷ l) = ap (λ r. g a ∷ r) (map-front g n l)

module _ (text work before : List ℕ) (at : ℕ) (kept : take at work ≡ take at before) (n rows : ℕ) (starts : All (λ s. s < at) (stored work at rows)) (few : n ≤ rows) where
  fewer : take n (stored work at rows) ≡ stored work at n
  unfolding stored
  fewer = take-take n rows (drop at work) few

  first_below : All (λ s. s < at) (stored work at n)
  first_below = rw (← fewer) (below_each at (take n (stored work at rows)) (below-front at n (stored work at rows) (each_below at (stored work at rows) starts)))

  pub front-names : take n (names_stored text before (stored work at rows)) ≡ names_stored text work (stored work at n)
  unfolding names_stored
  front-names = map-front (name_at text before) n (stored work at rows) ∙ ap (map (name_at text before)) fewer ∙ sym (names-kept text work before at kept (stored work at n) first_below)
