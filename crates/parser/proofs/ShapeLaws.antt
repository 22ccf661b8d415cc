-- What a matrix is to be, one case at a time. Assumes nothing.
use Rattle.std.specs.Prelude.{Some, None}
use Prim.Native.Nat.{ℕ, zero, suc, ◌-◌, ◌^◌, ◌<◌}
use Rattle.block.specs.Blocks.{Data, agrees, declared_count, matrix_shape}
use Rattle.block.specs.Commands.{words}
use Rattle.block.specs.Format.{Format, default_format}
use Rattle.block.specs.NamesHeld.{names_of}
use Rattle.block.specs.Outcome.{done, refused}
use Rattle.block.specs.declared.dimension.Dimensions.{Dimensions}
use Rattle.commands.specs.StateHeld.{names_in}
use Rattle.lexer.proofs.Basics.{and-true}
use Rattle.lexer.specs.Base.{pick}
use Rattle.lexer.specs.Stored.{range}
use Rattle.lexer.specs.Words.{Numbered, largest}
use Rattle.lexer.specs.declared.refusal.Refusal.{Refusal}
use Rattle.std.specs.Prelude as Std
use borrow.Author.Tests.{le-leb}
use lib.Dec.{eqb}
use lib.ListN.{length, length-map}
use mathlib.Core.Bool.{true, false, ◌&&◌, ◌||◌}
use mathlib.Core.List.{List}
use mathlib.Core.Option.{Option, none, some, get_or}
use mathlib.Core.Path.{◌≡◌, refl, sym}
use native.Mathlib.Omega.{arith}

-- There are as many names as words.
names-length : (ws : List Numbered) → length (names_of ws) ≡ length ws
unfolding names_of
names-length ws = length-map ws _

module _ (text front : List ℕ) where
  pub names-none : (names : Std.Option (ℕ × ℕ)) → names ≡ None → names_in text front names ≡ none
  unfolding names_in
  names-none names e = rw e

  pub names-words : (names : Std.Option (ℕ × ℕ)) (from to : ℕ) → names ≡ Some (from, to) → names_in text front names ≡ some (names_of (words (range text front from to)))
  unfolding names_in
  names-words names from to e = rw e

-- NTAX, or the count of the names.
module _ (n : ℕ) (names : Option (List (List ℕ))) where
  pub count-plain : names ≡ none → n ≡ declared_count names n
  unfolding declared_count
  count-plain e = rw e

module _ (names : Option (List (List ℕ))) (ws : List Numbered) (e : names ≡ some (names_of ws)) where
  pub count-named : (n : ℕ) → n ≡ 0 → length ws ≡ declared_count names n
  unfolding declared_count
  count-named n z = rw (e, z) (sym (names-length ws))

  pub count-given : (n : ℕ) → (n ≡ 0 → ⊥) → n ≡ declared_count names n
  unfolding declared_count
  count-given zero z = absurd (z refl)
  count-given (suc n) z = rw e

  -- A number of 64 bits agrees if there are so many.
  pub agrees-named : (n : ℕ) → n < 2 ^ 64 → eqb (length ws) n ≡ agrees names n
  unfolding agrees largest
  agrees-named n h = rw (e, names-length ws, le-leb n (2 ^ 64 - 1) (omega (arith, h))) (sym (and-true (eqb (length ws) n)))

pub agrees-none : (names : Option (List (List ℕ))) (n : ℕ) → names ≡ none → true ≡ agrees names n
unfolding agrees
agrees-none names n e = rw e

-- The tests of a shape, by the count of taxa.
module _ (d : Data) (dims : Dimensions) (head n : ℕ) (counted : n ≡ declared_count d.taxa dims.taxa) where
  pub shape-absent : (eqb dims.characters 0 || eqb n 0) ≡ true → refused Refusal.Absent head ≡ matrix_shape d dims head
  unfolding matrix_shape pick
  shape-absent e = rw (← counted, e)

  module _ (some_there : (eqb dims.characters 0 || eqb n 0) ≡ false) where
    pub shape-differs : agrees d.taxa n ≡ false → refused Refusal.Count head ≡ matrix_shape d dims head
    unfolding matrix_shape pick
    shape-differs e = rw (← counted, some_there, e)

    module _ (agreed : agrees d.taxa n ≡ true) where
      pub shape-new : (dims.new_taxa && eqb dims.taxa 0) ≡ true → refused Refusal.Absent head ≡ matrix_shape d dims head
      unfolding matrix_shape pick
      shape-new e = rw (← counted, some_there, agreed, e)

      pub shape-whole : (f : Format) → f ≡ get_or d.format default_format → (dims.new_taxa && eqb dims.taxa 0) ≡ false
          → done (record { taxa = n; characters = dims.characters; format = f; head = head }) ≡ matrix_shape d dims head
      unfolding matrix_shape pick
      shape-whole f same e = rw (← counted, some_there, agreed, e, same)
