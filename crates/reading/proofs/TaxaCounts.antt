-- How many taxa a matrix that is held has, by its names. Assumes nothing.
use Rattle.std.specs.Prelude.{Some, None}
use Prim.Native.Nat.{ℕ, ◌≤◌, min}
use Rattle.block.specs.Commands.{words}
use Rattle.commands.specs.declared.state.Held.{Held}
use Rattle.lexer.proofs.Basics.{by-test}
use Rattle.lexer.specs.Base.{pick}
use Rattle.lexer.specs.Stored.{range}
use Rattle.reading.specs.RowLines.{names_count, row_count, taxa_count}
use borrow.Author.Tests.{ltb-false, ltb-true}
use lib.Dec.{ltb}
use lib.ListN.{length}
use mathlib.Core.Bool.{Bool}
use mathlib.Core.List.{List}
use mathlib.Core.Path.{◌≡◌, refl, sym, ◌∙◌}
use native.Mathlib.Omega.{arith}

module _ (text front : List ℕ) (h : Held) (interleave : Bool) where
  pub count-rows : {r : ℕ} → h.names ≡ None → r ≡ row_count interleave h.lines h.taxa → r ≡ taxa_count text front h interleave
  unfolding taxa_count names_count
  count-rows e r = r ∙ sym (rw e refl)

  -- Under declared names there are no more than are held.
  pub names-few : (from to : ℕ) → h.names ≡ Some (from, to) → taxa_count text front h interleave ≤ h.taxa
  unfolding taxa_count names_count pick
  names-few from to e =
      let count = length (words (range text front from to)) in
      rw e (by-test (ltb h.taxa count) (λ t. rw t (omega arith)) (λ f. rw f (ltb-false h.taxa count f)))

  -- So there are as many as words, up to that.
  pub count-names : (from to : ℕ) {count r : ℕ} → h.names ≡ Some (from, to) → count ≡ length (words (range text front from to)) → r ≡ min count h.taxa
      → r ≡ taxa_count text front h interleave
  unfolding taxa_count names_count pick
  count-names from to {count} e c m =
      rw (m, e, ← c)
      (by-test (ltb h.taxa count)
      (λ t. let more = ltb-true h.taxa count t in rw t (omega arith))
      (λ f. let few = ltb-false h.taxa count f in rw f (omega arith)))
