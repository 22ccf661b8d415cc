-- Steps of TAXA by their tests, one case at a time. Assumes nothing.
use Rattle.std.specs.Prelude.{Some, None}
use Prim.Native.Nat.{ℕ, zero, suc}
use Rattle.block.specs.Blocks.{Phase, State, in_taxa, outside, taxa_count, taxa_end, taxa_step}
use Rattle.block.specs.Commands.{words}
use Rattle.block.specs.Dimensions.{dimensions}
use Rattle.block.specs.Names.{unique_names}
use Rattle.block.specs.NamesHeld.{name_of, names_of}
use Rattle.block.specs.Outcome.{Outcome, done, refused, then}
use Rattle.block.specs.declared.dimension.Dimensions.{Dimensions}
use Rattle.commands.specs.StateHeld.{names_in}
use Rattle.lexer.specs.Base.{bytes, given, pick}
use Rattle.lexer.specs.Stored.{range}
use Rattle.lexer.specs.Words.{Numbered, is}
use Rattle.lexer.specs.declared.refusal.Refusal.{Refusal}
use Rattle.std.specs.Prelude as Std
use borrow.Author.Tests.{eq-eqb, ne_eqb}
use lib.Dec.{eqb}
use lib.ListN.{length, length-map}
use mathlib.Core.Bool.{Bool, true, false, ◌&&◌, ◌||◌, not, false≢true, true≢false}
use mathlib.Core.List.{List}
use mathlib.Core.Option.{Option, none, some}
use mathlib.Core.Path.{◌≡◌, refl, sym, ◌∙◌}
use native.Mathlib.Omega.{arith}

-- DIMENSIONS with more than NTAX, without it, with it alone.
module _ (h : Numbered) (b : ℕ) (d : Dimensions) where
  pub count-more : (not (eqb d.characters 0) || d.new_taxa) ≡ true → taxa_count h b d ≡ refused Refusal.Dimension h.index
  unfolding taxa_count pick
  count-more e = rw e

  module _ (e : (not (eqb d.characters 0) || d.new_taxa) ≡ false) where
    pub count-absent : d.taxa ≡ 0 → taxa_count h b d ≡ refused Refusal.Absent h.index
    unfolding taxa_count pick
    count-absent z = rw (e, eq-eqb d.taxa 0 z)

    pub count-alone : (d.taxa ≡ 0 → ⊥) → taxa_count h b d ≡ done (in_taxa b d.taxa none)
    unfolding taxa_count pick
    count-alone z = rw (e, ne_eqb d.taxa 0 z)

not-zero : (n : ℕ) → eqb (suc n) 0 ≡ false
not-zero n = ne_eqb (suc n) 0 (λ e. omega arith)

-- No command stands behind TAXLABELS; without NTAX it is DIMENSIONS, with it TAXLABELS. What goes on from it is the same.
module _ (h : Numbered) (ws : List Numbered) (b : ℕ) (f : Phase → Outcome State) where
  pub step-named : (count : ℕ) (names : Option (List (List ℕ))) (g : Bool) → g ≡ given names → g ≡ true → refused Refusal.Command h.index ≡ then (taxa_step h ws b count names) f
  unfolding taxa_step given then
  step-named count none g k z = absurd (false≢true (sym k ∙ z))
  step-named count (some l) g k z = refl

  pub step-dimensions : (count : ℕ) (names : Option (List (List ℕ))) (r : Outcome State) (g t : Bool) → g ≡ given names → g ≡ false → t ≡ is (bytes "DIMENSIONS") h → (eqb count 0 && t) ≡ true
      → r ≡ then (then (dimensions ws) (taxa_count h b)) f → r ≡ then (taxa_step h ws b count names) f
  unfolding taxa_step given pick
  step-dimensions zero none r g t k z i e q = let y : t ≡ true = e in rw (← i, y) q
  step-dimensions (suc n) none r g t k z i e q = absurd (false≢true (rw (not-zero n) at e))
  step-dimensions count (some l) r g t k z i e q = absurd (true≢false (sym k ∙ z))

  pub step-labels : (count : ℕ) (names : Option (List (List ℕ))) (r : Outcome State) (g t : Bool) → g ≡ given names → g ≡ false → t ≡ is (bytes "TAXLABELS") h → (not (eqb count 0) && t) ≡ true
      → r ≡ then (then (unique_names ws) (λ l. done (in_taxa b count (some l)))) f → r ≡ then (taxa_step h ws b count names) f
  unfolding taxa_step given pick
  step-labels zero none r g t k z i e q = absurd (false≢true e)
  step-labels (suc n) none r g t k z i e q = let y : t ≡ true = rw (not-zero n) at e in rw (← i, y) q
  step-labels count (some l) r g t k z i e q = absurd (true≢false (sym k ∙ z))

  pub step_other : (count : ℕ) (names : Option (List (List ℕ))) (g t u : Bool) → g ≡ given names → g ≡ false → t ≡ is (bytes "DIMENSIONS") h → (eqb count 0 && t) ≡ false
      → u ≡ is (bytes "TAXLABELS") h → (not (eqb count 0) && u) ≡ false → refused Refusal.Command h.index ≡ then (taxa_step h ws b count names) f
  unfolding taxa_step given pick then
  step_other zero none g t u k z i e j d = let y : t ≡ false = e in rw (← i, y)
  step_other (suc n) none g t u k z i e j d = let y : u ≡ false = rw (not-zero n) at d in rw (← j, y)
  step_other count (some l) g t u k z i e j d = absurd (true≢false (sym k ∙ z))

-- The end: no names, too few or too many, as many as were declared.
module _ (text work : List ℕ) (s : State) (b count : ℕ) (names : Std.Option (ℕ × ℕ)) where
  pub end-absent : names ≡ None → taxa_end s b count (names_in text work names) ≡ refused Refusal.Absent b
  unfolding taxa_end names_in
  end-absent e = rw e

  module _ (from to n : ℕ) (e : names ≡ Some (from, to)) (counted : n ≡ length (words (range text work from to))) where
    as_many : n ≡ length (names_of (words (range text work from to)))
    unfolding names_of
    as_many = counted ∙ sym (length-map (words (range text work from to)) name_of)

    pub end-other : (n ≡ count → ⊥) → taxa_end s b count (names_in text work names) ≡ refused Refusal.Count b
    unfolding taxa_end names_in pick
    end-other z = rw (e, ← as_many, ne_eqb n count z)

    pub end-met : n ≡ count
        → taxa_end s b count (names_in text work names) ≡ done (record { phase = outside; taxa = names_in text work names; matrix = s.matrix; assumptions = s.assumptions })
    unfolding taxa_end names_in pick
    end-met z = rw (e, ← as_many, eq-eqb n count z)
