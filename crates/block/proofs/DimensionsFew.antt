-- The counts that DIMENSIONS declares have 64 bits. Assumes nothing.
use Prim.Native.Nat.{ℕ, zero, suc, ◌≤◌}
use Rattle.block.proofs.OutcomeLaws.{then-done, pick-either, pick-when, refused-done, done_inj, Any, all_any, fold-keeps}
use Rattle.block.specs.Dimensions.{dimensions_of, no_dimensions, with_count, count_option, dimension_option, dimension_value, dimension_turn, dimension_end, dimensions}
use Rattle.block.specs.Outcome.{done, fold}
use Rattle.block.specs.declared.dimension.Count.{Count}
use Rattle.block.specs.declared.dimension.Dimensioning.{Dimensioning}
use Rattle.block.specs.declared.dimension.Dimensions.{Dimensions}
use Rattle.lexer.specs.Base.{pick, bytes, byte}
use Rattle.lexer.specs.Words.{Numbered, is, punct, unsigned, positive, number, largest}
use Rattle.lexer.specs.declared.refusal.Refusal.{Refusal}
use borrow.Author.Tests.{leb-true}
use lib.Dec.{leb}
use mathlib.Core.Bool.{Bool, true, false, ◌&&◌, not}
use mathlib.Core.List.{List}
use mathlib.Core.Path.{◌≡◌, refl}
use native.Mathlib.Omega.{arith}

pub record Few (d : Dimensions) : Type 0 where
  pub taxa : d.taxa ≤ largest
  pub characters : d.characters ≤ largest

-- The invariant: the counts declared so far are few, wherever the command is.
abbrev Declared : Dimensioning → Type 0
Declared (Dimensioning.Option d) = Few d
Declared (Dimensioning.Equals d c i) = Few d
Declared (Dimensioning.Value d c i) = Few d

positive-few : (text : List ℕ) → positive text ≤ largest
unfolding positive pick
positive-few text = go (unsigned text) (leb (unsigned text) largest) refl
  where
    go : (n : ℕ) (b : Bool) → leb n largest ≡ b → pick b n 0 ≤ largest
    go n true e = leb-true n largest e
    go n false e = omega arith

number-few : (w : Numbered) → number w ≤ largest
unfolding number
number-few w = positive-few w.token.text

count-few : (c : Count) (n : ℕ) (d : Dimensions) → n ≤ largest → Few d → Few (with_count c n d)
unfolding with_count dimensions_of
count-few Count.Taxa n d h f = record { taxa = h; characters = f.characters }
count-few Count.Characters n d h f = record { taxa = f.taxa; characters = h }

module _ (d : Dimensions) (w : Numbered) (t : Dimensioning) (f : Few d) where
  done-few : (s : Dimensioning) → Declared s → done s ≡ done t → Declared t
  done-few s p e = rw (← done_inj e) p

  once-few : (c : Count) (n : ℕ) → count_option d w c n ≡ done t → Declared t
  unfolding count_option
  once-few c zero e = done-few (Dimensioning.Equals d c w.index) f e
  once-few c (suc n) e = refused-done Refusal.Dimension w.index t e

  option-few : dimension_option d w ≡ done t → Declared t
  unfolding dimension_option dimensions_of
  option-few e =
      pick-either (is (bytes "NEWTAXA") w && not d.new_taxa) _ _ t (done-few (Dimensioning.Option (dimensions_of d.taxa d.characters true)) (record { taxa = f.taxa; characters = f.characters }))
      (pick-either (is (bytes "NTAX") w) _ _ t (once-few Count.Taxa d.taxa)
      (pick-either (is (bytes "NCHAR") w) _ _ t (once-few Count.Characters d.characters)
      (refused-done Refusal.Dimension w.index t))) e

  value-few : (c : Count) (n : ℕ) → n ≤ largest → dimension_value d c w n ≡ done t → Declared t
  unfolding dimension_value
  value-few c zero h e = refused-done Refusal.Dimension w.index t e
  value-few c (suc n) h e = done-few (Dimensioning.Option (with_count c (suc n) d)) (count-few c (suc n) d h f) e

turn-few : (s : Dimensioning) (w : Numbered) (t : Dimensioning) → Declared s → Any w → dimension_turn s w ≡ done t → Declared t
unfolding dimension_turn
turn-few (Dimensioning.Option d) w t f q e = option-few d w t f e
turn-few (Dimensioning.Equals d c i) w t f q e = rw (← done_inj (pick-when (punct (byte "=") w) Refusal.NoValue i _ t e).1) f
turn-few (Dimensioning.Value d c i) w t f q e = value-few d w t f c (number w) (number-few w) e

end-few : (s : Dimensioning) (d : Dimensions) → Declared s → dimension_end s ≡ done d → Few d
unfolding dimension_end
end-few (Dimensioning.Option x) d f e = rw (← done_inj e) f
end-few (Dimensioning.Equals x c i) d f e = refused-done Refusal.NoValue i d e
end-few (Dimensioning.Value x c i) d f e = refused-done Refusal.NoValue i d e

pub dimensions-few : (ws : List Numbered) (d : Dimensions) → dimensions ws ≡ done d → Few d
unfolding dimensions no_dimensions dimensions_of
dimensions-few ws d h =
    let s = then-done (fold dimension_turn (Dimensioning.Option no_dimensions) ws) dimension_end d h in
    let none : Few no_dimensions = record { taxa = omega arith; characters = omega arith } in
    end-few s.0 d (fold-keeps Declared Any dimension_turn turn-few (Dimensioning.Option no_dimensions) ws s.0 none (all_any ws) s.1) s.2
