-- A reading is no larger than its text: it has at most as many taxa, and at most as many characters, as the text has bytes. Assumes nothing.
use Prim.Native.Nat.{ℕ, ◌≤◌}
use Rattle.block.proofs.MatrixParts.{rows-keep, matrix-shaped}
use Rattle.block.proofs.OutcomeLaws.{pick-either, All}
use Rattle.block.proofs.PagesSmall.{interleaved-taken}
use Rattle.block.proofs.ReadingSound.{reading-sound}
use Rattle.block.proofs.RowsSmall.{row-bulk, bulk, Taken, sequential-taken}
use Rattle.block.proofs.RowsSound.{length-names}
use Rattle.block.proofs.TaxaFollow.{taxa-follow}
use Rattle.block.proofs.Weights.{total-few, words-light, to-end-light, numbered-weights}
use Rattle.block.specs.Blocks.{agrees, rows}
use Rattle.block.specs.Commands.{command, empty, unended, newline, semicolon, ended, up_to_end, begun, commands_from, commands, words}
use Rattle.block.specs.Interleaved.{all_long, interleaved}
use Rattle.block.specs.Outcome.{done}
use Rattle.block.specs.Parse.{reading, read}
use Rattle.block.specs.Reading.{Taxon, Reading}
use Rattle.block.specs.Sequential.{Shape, sequential}
use Rattle.block.specs.TaxonOrder.{behind_header, commands_of, all_rows, Follows}
use Rattle.block.specs.Weights.{weights}
use Rattle.lexer.proofs.Basics.{and_left, by-test}
use Rattle.lexer.proofs.TokenSizes.{tokens-small}
use Rattle.lexer.specs.Base.{pick, is_empty}
use Rattle.lexer.specs.Tokens.{tokens}
use Rattle.lexer.specs.Words.{Numbered, numbered, largest}
use borrow.Author.Tests.{eqb-true}
use lib.Dec.{leb, eqb}
use lib.ListN.{length}
use mathlib.Core.Bool.{Bool, true, false, true≢false}
use mathlib.Core.List.{List, [], ◌∷◌, Memᴰ}
use mathlib.Core.Logic.{⊎_elim}
use mathlib.Core.Option.{Option, none, some}
use mathlib.Core.Path.{◌≡◌, refl, ap}
use native.Mathlib.Omega.{arith}

pub record Small (text : List ℕ) (r : Reading) : Type 0 where
  pub taxa : length r.taxa ≤ length text
  pub characters : length r.characters ≤ length text

-- A command's tokens weigh no more than those that it is cut from.
begun-light : (w h : Numbered) (r raw : List Numbered) → command h raw ≡ begun w r → weights raw ≤ weights r
unfolding begun pick
begun-light w h r raw e = by-test (ended r) (λ t. whole (rw t at e)) (λ t. open_ended (rw t at e))
  where
    whole : command h raw ≡ command w (up_to_end r) → weights raw ≤ weights r
    whole e = let same : raw ≡ up_to_end r = cc in rw same (to-end-light r)

    open_ended : command h raw ≡ unended w.index → weights raw ≤ weights r
    open_ended e = absurd (let z : ◌≡◌ {A = ℕ} 0 1 = cc in omega arith)

command-light : (inside : Bool) (ws raw : List Numbered) (h : Numbered) → Memᴰ (command h raw) (commands_from inside ws) → weights raw ≤ weights ws
unfolding commands_from pick
command-light inside [] raw h m = absurd (mathlib.Core.List.Memᴰ.not-nil m)
command-light true (w ∷ r) raw h m =
    by-test (semicolon w) (λ t. let k = command-light false r raw h (rw t at m) in omega arith) (λ t. let k = command-light true r raw h (rw t at m) in omega arith)
command-light false (w ∷ r) raw h m =
    by-test (newline w) (λ n. let k = command-light false r raw h (rw n at m) in omega arith)
    (λ n. by-test (semicolon w) (λ t. none_first (command-light false r raw h) (rw (n, t) at m)) (λ t. one_first (command-light true r raw h) (rw (n, t) at m)))
  where
    none_first : (Memᴰ (command h raw) (commands_from false r) → weights raw ≤ weights r)
        → Memᴰ (command h raw) (empty w.index ∷ commands_from false r) → weights raw ≤ weights (w ∷ r)
    none_first k p = ⊎_elim (λ e. absurd (let z : ◌≡◌ {A = ℕ} 0 1 = cc in omega arith)) (λ q. let l = k q in omega arith) (mathlib.Core.List.Memᴰ.cases_cons p)

    one_first : (Memᴰ (command h raw) (commands_from true r) → weights raw ≤ weights r)
        → Memᴰ (command h raw) (begun w r ∷ commands_from true r) → weights raw ≤ weights (w ∷ r)
    one_first k p = ⊎_elim (λ e. let l = begun-light w h r raw e in omega arith) (λ q. let l = k q in omega arith) (mathlib.Core.List.Memᴰ.cases_cons p)

header-light : (ws : List Numbered) → weights (behind_header ws) ≤ weights ws
unfolding behind_header pick
header-light [] = omega arith
header-light (w ∷ r) = by-test (newline w) (λ t. rw t (let k = header-light r in omega arith)) (λ t. rw t (omega arith))

-- At most so many cells.
abbrev Short : ℕ → Taxon → Type 0
Short n t = length t.cells ≤ n

bulk-few : (taken : List Taxon) → length taken ≤ bulk taken
bulk-few = total-few row-bulk (λ t. omega arith)

module _ (n : ℕ) where
  bulk-short : (taken : List Taxon) → bulk taken ≤ n → All (Short n) taken
  bulk-short [] h = tt
  bulk-short (t ∷ r) h = (omega arith, bulk-short r (omega arith))

  rows_taken : (sh : Shape) (raw : List Numbered) (taken : List Taxon) → weights raw ≤ n → rows sh raw ≡ done taken → Taken sh n taken
  unfolding rows
  rows_taken sh raw taken w h =
      pick-either sh.format.interleave (interleaved sh raw) (sequential sh (words raw)) taken
      (λ e. let k = interleaved-taken sh raw taken e in record { light = omega arith; counted = k.counted })
      (λ e. let k = sequential-taken sh (words raw) taken e in let l = words-light raw in record { light = omega arith; counted = k.counted }) h

  all_short : (taken taxa : List Taxon) → All (Short n) taken → all_rows taken taxa → All (Short n) taxa
  all_short = rows-keep (Short n) (λ x name s. s)

-- Taxa that follow the rows are no more than those, and no longer.
follows-small : (n : ℕ) (declared : Option (List (List ℕ))) (sh : Shape) (taken taxa : List Taxon) → agrees declared sh.taxa ≡ true
    → Taken sh n taken → Follows declared taken taxa → (length taxa ≤ n) × All (Short n) taxa
unfolding agrees
follows-small n none sh taken taxa a m f =
    let k = bulk-few taken in
    let l = m.light in
    rw f (omega arith, bulk-short n taken l)
follows-small n (some declared) sh taken taxa a m f =
    let names = length-names taxa in
    let same = ap length f.0 in
    let count = eqb-true (length declared) sh.taxa (and_left (eqb (length declared) sh.taxa) (leb sh.taxa largest) a) in
    let k = bulk-few taken in
    let l = m.light in
    let c = m.counted in
    (omega arith, all_short n taken taxa (bulk-short n taken l) f.1)

-- Each character has a cell in the first row.
first-row : (n count : ℕ) (taxa : List Taxon) → is_empty taxa ≡ false → all_long count taxa ≡ true → All (Short n) taxa → count ≤ n
unfolding is_empty all_long
first-row n count [] e l p = absurd (true≢false e)
first-row n count (t ∷ r) e l p =
    let k = eqb-true (length t.cells) count (and_left (eqb (length t.cells) count) (all_long count r) l) in
    let s = p.0 in
    omega arith

-- A reading is no larger than its text.
pub reading_small : (text : List ℕ) (r : Reading) → read text ≡ reading r → Small text r
unfolding commands_of commands
reading_small text r h =
    let n = length text in
    let (m, follows) = taxa-follow text r h in
    let ws = numbered 0 (tokens text) in
    let all : weights ws ≤ n = rw (numbered-weights 0 (tokens text)) (tokens-small text) in
    let member : Memᴰ (command m.head m.raw) (commands_of text) = rw m.here (mathlib.Core.List.Memᴰ.append_right m.before (mathlib.Core.List.Memᴰ.head refl)) in
    let raw = command-light false (behind_header ws) m.raw m.head member in
    let header = header-light ws in
    let taken = rows_taken n m.shape m.raw m.rows (omega arith) m.read in
    let shaped = matrix-shaped m.block_data m.dimensions m.head.index m.shape m.shaped in
    let small = follows-small n m.block_data.taxa m.shape m.rows r.taxa shaped.agreed taken follows in
    let sound = reading-sound text r h in
    record { taxa = small.0; characters = first-row n (length r.characters) r.taxa sound.some_taxon sound.rows_long small.1 }
