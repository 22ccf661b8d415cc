-- The declared order of stored rows: what storing it asks for, and what it comes to. Assumes nothing.
use Rattle.std.specs.Prelude.{Some, None, Ok, Option, Result, ⊤}
use Prim.Native.Nat.{ℕ, ◌+◌, ◌≤◌}
use Rattle.block.specs.Blocks.{agrees, in_order}
use Rattle.block.specs.Commands.{words}
use Rattle.block.specs.Judged.{judged}
use Rattle.block.specs.NamesHeld.{names_of}
use Rattle.commands.specs.MatrixHeld.{order_held}
use Rattle.commands.specs.StateHeld.{names_in}
use Rattle.commands.specs.WorkMap.{map_fits, order_place}
use Rattle.lexer.proofs.Basics.{and_left}
use Rattle.lexer.proofs.RangeLaws.{range-kept}
use Rattle.lexer.specs.Stored.{range}
use Rattle.lexer.specs.Words.{largest}
use Rattle.matrix.proofs.BelowLaws.{below-further}
use Rattle.matrix.specs.OrderHeld.{Arranged}
use Rattle.parser.proofs.MapFits.{fitting}
use Rattle.parser.specs.Storing.{OrderMade, names_within}
use Rattle.lexer.specs.declared.Fault.{Fault}
use borrow.Author.Tests.{eqb-true, leb-true}
use lib.Dec.{eqb, leb}
use lib.ListN.{length, take}
use lib.Seq.{take_all, take-take}
use mathlib.Core.Bool.{true}
use mathlib.Core.List.{List}
use mathlib.Core.Path.{◌≡◌, refl, sym}
use native.Mathlib.Omega.{arith}

-- What storing the order asks for.
module _ (size count lines taxa : ℕ) (h : map_fits size count lines taxa 0 ≡ true) where
  pub order-few : (count ≤ 1048576) × (lines ≤ 1048576) × (taxa ≤ 1048576)
  order-few = let f = fitting size count lines taxa 0 h in (f.few_tokens, f.few_lines, f.few_taxa)

  pub order-room : (names : Option (ℕ × ℕ)) (from to at : ℕ) → names_within count names ≡ true → names ≡ Some (from, to) → at ≡ order_place count lines taxa
      → (to ≤ count) × (count + taxa ≤ at) × (at + to ≤ size) × (taxa ≤ 1048576)
  unfolding names_within order_place
  order-room names from to at w e p =
      let f = fitting size count lines taxa 0 h in
      let t : to ≤ count = leb-true to count (rw e at w) in
      (t, omega (arith, p), omega (arith, p, f.order), f.few_taxa)

-- Without declared names nothing is stored.
pub order-none : (text work : List ℕ) (count lines taxa head : ℕ) (names : Option (ℕ × ℕ)) → names ≡ None → OrderMade text work work count lines taxa head names (Ok tt)
unfolding judged order_held in_order names_in
order-none text work count lines taxa head names e = record { size = refl; kept = refl; each = λ taken named below differ agreed. rw e }

module _ (text before after : List ℕ) (count lines taxa head from to at : ℕ) (names : Option (ℕ × ℕ)) (e : names ≡ Some (from, to)) (p : at ≡ order_place count lines taxa) (within : to ≤ count) (r : Result ⊤ (Fault ℕ)) where
  pub order-arranged : Arranged text before after count taxa from to at head r → OrderMade text before after count lines taxa head names r
  unfolding order_held in_order names_in order_place agrees
  order-arranged a =
      record {
        size = a.size;
        kept = rw p at a.kept;
        each =
            λ taken named below differ agreed.
            let ns = names_of (words (range text (take count before) from to)) in
            let front = range-kept text before (take count before) count (sym (take-take count count before (omega arith))) from to within in
            let many : length ns ≡ taxa = eqb-true (length ns) taxa (and_left (eqb (length ns) taxa) (leb taxa largest) (rw e at agreed)) in
            let whole : take taxa ns ≡ ns = take_all taxa ns (omega (arith, many)) in
            rw (e, whole, ← p) (rw front at (a.each taken named (below-further count at (omega (arith, p)) _ below) differ));
      }
