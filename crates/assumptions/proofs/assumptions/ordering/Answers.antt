-- The function `ordering` meets its contract: the type was told by the word's bytes, or is that of any word. Assumes nothing.
use Rattle.std.specs.Prelude.{Some, None, MatchOption}
use Rattle.std.specs.Prelude as Std
use Rattle.std.proofs.Common.{rules, of_calls}
use Rattle.assumptions.proofs.KeyWords.{told-type, type-there}
use Rattle.block.specs.declared.model.CharacterOrdering.{CharacterOrdering}
use Rattle.lexer.specs.Base.{option_of}
use mathlib.Core.Option.{Option, some}
use mathlib.Core.Path.{◌≡◌, refl, sym, ap, ◌∙◌}
use Rattle.assumptions.proofs.assumptions.ordering.Goals as goal

or-told : {P : Type 0} (r q : Std.Option CharacterOrdering) (o : Option CharacterOrdering) → MatchOption r P (λ x. q ≡ Some x) → (P → option_of q ≡ o) → ((x : CharacterOrdering) → r ≡ Some x → some x ≡ o) → option_of q ≡ o
unfolding option_of
or-told None q o m p s = p m
or-told (Some x) q o m p s = rw m (s x refl)

pub returns : goal.returns
unfolding option_of
returns c =
    or-told c.told_type.result _ _ c.or_else.ensures (λ p. search (rules, of_calls, p))
    (λ x is. sym (sym (type-there _ _ _ _ c.start_of.ensures) ∙ told-type _ _ _ (sym c.told_type.ensures ∙ ap option_of is)))
