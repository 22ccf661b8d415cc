-- Steps of the blocks by their tests, one case at a time. Assumes nothing.
use Prim.Native.Nat.{ℕ}
use Rattle.block.specs.Blocks.{State, in_assumptions, in_phase, begin_assumptions}
use Rattle.block.specs.Outcome.{done, refused}
use Rattle.block.specs.Reading.{Reading}
use Rattle.lexer.specs.Base.{given}
use Rattle.lexer.specs.declared.refusal.Refusal.{Refusal}
use mathlib.Core.Bool.{Bool, true, false, ◌||◌, not, true≢false, false≢true}
use mathlib.Core.Option.{Option, none, some}
use mathlib.Core.Path.{◌≡◌, refl}

-- ASSUMPTIONS begins: a second time or without a matrix, and the first time behind one.
module _ (s : State) (i : ℕ) where
  pub assumptions-refused : (seen : Bool) (matrix : Option Reading) → seen || not (given matrix) ≡ true → refused Refusal.Block i ≡ begin_assumptions s i seen matrix
  unfolding begin_assumptions given
  assumptions-refused true matrix e = refl
  assumptions-refused false none e = refl
  assumptions-refused false (some r) e = absurd (false≢true e)

  pub assumptions-begin : (seen : Bool) (matrix : Option Reading) → seen || not (given matrix) ≡ false → done (in_phase (in_assumptions i none none) s) ≡ begin_assumptions s i seen matrix
  unfolding begin_assumptions given
  assumptions-begin true matrix e = absurd (true≢false e)
  assumptions-begin false none e = absurd (true≢false e)
  assumptions-begin false (some r) e = refl
