-- Work memory that is enough holds the map of a matrix that was read. Assumes nothing.
use Rattle.std.specs.Prelude.{Ok}
use Prim.Native.Nat.{ℕ, zero, suc, ◌+◌, ◌*◌, ◌-◌, ◌≤◌}
use Rattle.block.specs.Format.{Format}
use Rattle.block.specs.Weights.{weights}
use Rattle.commands.specs.StatePlaced.{CommandPlaced}
use Rattle.commands.specs.Stepping.{Enough}
use Rattle.commands.specs.WorkMap.{map_fits}
use Rattle.lexer.proofs.RangeLaws.{range-next}
use Rattle.lexer.specs.Lexing.{longest, work_needed}
use Rattle.lexer.specs.Stored.{range, word_of, words_of}
use Rattle.matrix.specs.RowsHeld.{RowsTaken}
use Rattle.parser.proofs.MapFits.{fits}
use lib.ListN.{length, length-take, take}
use mathlib.Core.Bool.{true}
use mathlib.Core.List.{List, ◌∷◌}
use mathlib.Core.Path.{◌≡◌, refl}
use native.Mathlib.Numerals.{add-one}
use native.Mathlib.Omega.{arith}

-- Fewer words weigh no more: those from a later index on, and those up to an earlier one.
module _ (text work : List ℕ) where
  later-light : (from to : ℕ) → from ≤ to → weights (range text work from to) ≤ weights (range text work 0 to)
  later-light zero to h = omega arith
  later-light (suc k) to h =
      let more = later-light k to (omega arith) in
      let next : weights (range text work k to) ≡ weights (word_of text work k ∷ range text work (suc k) to) = rw (range-next text work k to (omega arith), add-one k) in
      omega (arith, more, next)

  earlier-light : (m n i : ℕ) → m ≤ n → weights (words_of text work i m) ≤ weights (words_of text work i n)
  unfolding words_of
  earlier-light zero n i h = omega arith
  earlier-light (suc m) zero i h = absurd (omega arith)
  earlier-light (suc m) (suc n) i h = let more = earlier-light m n (suc i) (omega arith) in omega (arith, more)

  range-light : (from to count : ℕ) → from ≤ to → to ≤ count → weights (range text work from to) ≤ weights (range text work 0 count)
  unfolding range
  range-light from to count h l =
      let later = later-light from to h in
      let earlier = earlier-light (to - 0) (count - 0) 0 (omega arith) in
      omega (arith, later, earlier)

-- The text has no fewer bytes than there are tokens, and no fewer than there are lines and characters together; taxa are no more than lines.
module _ {text before after : List ℕ} {count head to taxa characters n : ℕ} {f : Format} where
  pub map-enough : Enough text before count → CommandPlaced (take count before) head to → count ≤ length before
      → RowsTaken text before after count (head + 1) to taxa characters head f (Ok n) → 1 ≤ taxa → map_fits (length after) count n taxa characters ≡ true
  unfolding longest work_needed
  map-enough enough placed room taken some =
      let front = length-take count before in
      let whole = range-light text before (head + 1) to count (omega (arith, placed.ahead)) (omega (arith, front, placed.within)) in
      let light = taken.light n refl some in
      let few = taken.rows_few n refl in
      let all : n + characters ≤ length text = omega (arith, light, whole, enough.weighed) in
      let size : 4 * length text + 64 ≤ length after = omega (arith, enough.room, taken.size) in
      let bytes : length text ≤ 1048576 = enough.bytes in
      let tokens : count ≤ length text = enough.tokens in
      fits (length after) count n taxa characters
      (record {
        few_tokens = omega (arith, tokens, bytes);
        few_lines = omega (arith, all, bytes);
        few_taxa = omega (arith, all, bytes, few);
        few_characters = omega (arith, all, bytes);
        order = omega (arith, all, few, tokens, size);
        types = omega (arith, all, few, tokens, size);
      })
