-- Rows that are read weigh at least as much as their lines and the characters together, or as their names and the characters. Assumes nothing.
use Prim.Native.Nat.{ℕ, suc, ◌+◌, ◌≤◌}
use Rattle.block.proofs.PagesSmall.{cell-count, interleaved-filled}
use Rattle.block.proofs.RowsSmall.{sequential-heavy}
use Rattle.block.proofs.Weights.{total-few}
use Rattle.block.specs.Interleaved.{all_long, lines, interleaved}
use Rattle.block.specs.Outcome.{done}
use Rattle.block.specs.Reading.{Taxon}
use Rattle.block.specs.Sequential.{Shape, sequential}
use Rattle.block.specs.Weights.{total, weights}
use Rattle.lexer.proofs.Basics.{and_left}
use Rattle.lexer.specs.Words.{Numbered}
use borrow.Author.Tests.{eqb-true}
use lib.Dec.{eqb}
use lib.ListN.{length}
use mathlib.Core.Bool.{true}
use mathlib.Core.List.{List, [], ◌∷◌}
use mathlib.Core.Path.{◌≡◌}
use native.Mathlib.Omega.{arith}

-- The first of some rows has as many cells as all are long.
first-long : (n : ℕ) (rows : List Taxon) → 1 ≤ length rows → all_long n rows ≡ true → n ≤ cell-count rows
unfolding all_long
first-long n [] h l = absurd (omega arith)
first-long n (t ∷ r) h l = let k = eqb-true (length t.cells) n (and_left (eqb (length t.cells) n) (all_long n r) l) in omega arith

-- Each of some rows counts one, and the first its characters besides.
first-counts : (n : ℕ) (rows : List Taxon) → 1 ≤ length rows → length rows + n ≤ total (λ t. suc n) rows
first-counts n [] h = absurd (omega arith)
first-counts n (t ∷ r) h = let k = total-few (λ (t : Taxon). suc n) (λ t. omega arith) r in omega arith

-- Each line of a page has a name and its cells.
pub pages-light : (sh : Shape) (ws : List Numbered) (rows : List Taxon) → interleaved sh ws ≡ done rows → 1 ≤ sh.taxa → length (lines ws) + sh.characters ≤ weights ws
pages-light sh ws rows h some =
    let k = interleaved-filled sh ws rows h in
    let l = first-long sh.characters rows (omega arith) k.long in
    omega arith

-- Each sequential row has a name and its cells.
pub sequence-light : (sh : Shape) (ws : List Numbered) (rows : List Taxon) → sequential sh ws ≡ done rows → 1 ≤ sh.taxa → sh.taxa + sh.characters ≤ weights ws
sequence-light sh ws rows h some =
    let k = sequential-heavy sh (λ t. suc sh.characters) (λ t e. omega arith) ws rows h in
    let l = first-counts sh.characters rows (omega arith) in
    omega arith
