-- What an item says of the text of a token that is left: the next byte and what is left behind it, or that nothing is. Assumes nothing.
use Rattle.std.specs.Prelude.{Some, None, Option}
use Rattle.std.proofs.lemmas.Option.{some_pair_parts}
use Prim.Native.Nat.{ℕ, suc, ◌≤◌, ◌<◌}
use Rattle.lexer.specs.Bytes.{left}
use Rattle.lexer.specs.declared.Cursor.{Cursor}
use lib.ListN.{length}
use mathlib.Core.List.{List, [], ◌∷◌}
use mathlib.Core.Path.{◌≡◌, sym}
use native.Mathlib.Omega.{arith}

-- A byte is the first of what is left from a place on, and the cursor stands further on in the text.
pub record YieldsByte (text : List ℕ) (at : ℕ) (rest : List ℕ) (b : ℕ) (d : Cursor) : Type 0 where
  pub here : rest ≡ b ∷ left text d
  pub ahead : at < d.at
  pub within : d.at ≤ length text

-- At the end nothing is left.
pub record Yields (text : List ℕ) (at : ℕ) (rest : List ℕ) (r : Option (ℕ × Cursor)) : Type 0 where
  pub byte : (b : ℕ) (d : Cursor) → r ≡ Some (b, d) → YieldsByte text at rest b d
  pub end : r ≡ None → rest ≡ []

never : {X : Type 0} (p : ℕ × Cursor) → Some p ≡ None → X
never p e = let z : ◌≡◌ {A = ℕ} 0 1 = cc in absurd (omega arith)

module _ {text : List ℕ} {at : ℕ} {rest : List ℕ} where
  pub yields-byte : {b : ℕ} {d : Cursor} → YieldsByte text at rest b d → Yields text at rest (Some (b, d))
  yields-byte {b} {d} y =
      record {
        byte = λ b' d' e. let p = some_pair_parts _ _ _ _ e in rw (← p.0, ← p.1) y;
        end = λ e. never (b, d) e;
      }

  pub yields-end : rest ≡ [] → Yields text at rest None
  yields-end h = record { byte = λ b d e. never (b, d) (sym e); end = λ _. h }

  -- What is yielded from a place on is further on than the place before it.
  pub yields-before : (r : Option (ℕ × Cursor)) → Yields text (suc at) rest r → Yields text at rest r
  yields-before r y =
      record {
        byte = λ b d e. let z = y.byte b d e in record { here = z.here; ahead = omega (arith, z.ahead); within = z.within };
        end = y.end;
      }
