-- The function `part_ended` meets its contract. Assumes nothing.
use Rattle.std.specs.Prelude.{ℕ, Bool, true, Option, Some, None, MatchOption, IsTrue}
use Rattle.std.proofs.Common.{rules, of_calls}
use Rattle.assumptions.proofs.PartLaws.{dash-ends}
use Rattle.block.specs.CharacterList.{to_dash}
use Rattle.lexer.proofs.NextBytes.{yielded}
use Rattle.lexer.specs.Base.{is_empty}
use Rattle.lexer.specs.declared.Cursor.{Cursor}
use mathlib.Core.Path.{◌≡◌, refl, ◌∙◌}
use Rattle.assumptions.proofs.parts.part_ended.Goals as goal

none-or : (P : ℕ × Cursor → Type 0) (r : Option (ℕ × Cursor)) (q t : Bool) → MatchOption r (IsTrue q) P → (r ≡ None → true ≡ t) → ((b : ℕ) (d : Cursor) → r ≡ Some (b, d) → P (b, d) → q ≡ t) → q ≡ t
none-or P None q t m n s = search (rules, m) ∙ n refl
none-or P (Some (b, d)) q t m n s = s b d refl m

pub returns : goal.returns
unfolding to_dash is_empty
returns c =
    let y = yielded _ _ _ c.next_byte.ensures in
    none-or _ c.next_byte.result _ _ c.is_none_or.ensures (λ e. rw (y.end e)) (λ b d e p. (search (rules, of_calls, p)) ∙ dash-ends b _ _ (y.byte b d e).here)
