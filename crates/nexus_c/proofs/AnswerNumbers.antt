-- A length and a refusal, in numbers. Assumes nothing.
use Rattle.std.specs.Prelude.{Ok, Err, Result}
use Prim.Native.Nat.{ℕ}
use Rattle.lexer.specs.Refusals.{number}
use Rattle.lexer.specs.declared.Place.{Place}
use Rattle.lexer.specs.declared.refusal.Refusal.{Refusal}
use Rattle.nexus_c.specs.Exports.{InNumbers, length_of, number_of, line_of, column_of}
use Rattle.lexer.specs.declared.Fault.{Fault}
use Rattle.lexer.specs.Refusals.{fault}
use mathlib.Core.Path.{◌≡◌, refl, sym, subst, ◌∙◌}

module _ (a b : Result ℕ (Fault Place)) (same : a ≡ b) where
  pub length-numbers : (n : ℕ) → a ≡ Ok n → InNumbers b n 0 0 0
  unfolding length_of number_of line_of column_of
  length-numbers n e = subst (λ x. InNumbers x n 0 0 0) (sym e ∙ same) (record { result = refl; number = refl; line = refl; column = refl })

  pub refusal-numbers : (why : Refusal) (at : Place) (n : ℕ) → a ≡ Err (fault why at) → n ≡ number why → InNumbers b 0 n at.line at.column
  unfolding length_of number_of line_of column_of
  refusal-numbers why at n e told = subst (λ x. InNumbers x 0 n at.line at.column) (sym e ∙ same) (record { result = refl; number = told; line = refl; column = refl })
