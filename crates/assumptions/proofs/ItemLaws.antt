-- One part more of a character list, by what is told of the part. Assumes nothing.
use Prim.Native.Nat.{ℕ, zero, suc, ◌≤◌, ◌<◌}
use Rattle.assumptions.specs.ListParts.{told}
use Rattle.assumptions.specs.declared.parts.Part as Code
use Rattle.block.specs.CharacterList.{Part, is_dash, is_stride, is_all, character_number, first_number, first_item, last_number, stride_number, range}
use Rattle.block.specs.Outcome.{done, refused}
use Rattle.block.specs.declared.kinds.Further.{Further}
use Rattle.block.specs.declared.kinds.Item.{Item}
use Rattle.lexer.specs.Base.{pick}
use Rattle.lexer.specs.Words.{number}
use Rattle.lexer.specs.declared.refusal.Refusal.{Refusal}
use borrow.Author.Tests.{lt-ltb, le-ltb}
use mathlib.Core.Bool.{true, false}
use mathlib.Core.Path.{◌≡◌, refl, sym, ap, ◌∙◌}

-- By a number: none, or some
first_some : (p : Part) (n : ℕ) → (n ≡ 0 → ⊥) → first_number p n ≡ done (Item.Single false n n p.word.index)
unfolding first_number
first_some p zero h = absurd (h refl)
first_some p (suc n) h = refl

last-low : (f i : ℕ) (p : Part) (n : ℕ) → (n ≡ 0 → ⊥) → n < f → last_number f i p n ≡ refused Refusal.CharacterList i
unfolding last_number pick
last-low f i p zero h l = absurd (h refl)
last-low f i p (suc n) h l = rw (lt-ltb (suc n) f l)

last-high : (f i : ℕ) (p : Part) (n : ℕ) → (n ≡ 0 → ⊥) → f ≤ n → last_number f i p n ≡ done (Further.On (Item.Pair f n i))
unfolding last_number pick
last-high f i p zero h l = absurd (h refl)
last-high f i p (suc n) h l = rw (le-ltb (suc n) f l)

stride-some : (f l : ℕ) (p : Part) (n : ℕ) → (n ≡ 0 → ⊥) → stride_number f l p n ≡ done (Further.Past (range f l n) Item.Number)
unfolding stride_number
stride-some f l p zero h = absurd (h refl)
stride-some f l p (suc n) h = refl

module _ (count : ℕ) (p : Part) (q : Code.Part) (e : q ≡ told count p) where
  told-index : q.index ≡ p.word.index
  unfolding told
  told-index = ap (λ (x : Code.Part). x.index) e

  pub told-dash : q.dash ≡ is_dash p
  unfolding told
  told-dash = ap (λ (x : Code.Part). x.dash) e

  pub told-stride : q.stride ≡ is_stride p
  unfolding told
  told-stride = ap (λ (x : Code.Part). x.stride) e

  told-all : q.all ≡ is_all p
  unfolding told
  told-all = ap (λ (x : Code.Part). x.all) e

  told-character : q.character ≡ character_number count p
  unfolding told
  told-character = ap (λ (x : Code.Part). x.character) e

  told-number : q.number ≡ number p.own
  unfolding told
  told-number = ap (λ (x : Code.Part). x.number) e

  -- a list begins, or goes on
  pub first-all : q.all ≡ true → done (Item.Single true 1 count q.index) ≡ first_item count p
  unfolding first_item pick
  first-all h = rw (sym told-all ∙ h, told-index)

  pub first-refused : q.all ≡ false → q.character ≡ 0 → refused Refusal.CharacterList q.index ≡ first_item count p
  unfolding first_item first_number pick
  first-refused h z = rw (sym told-all ∙ h, sym told-character ∙ z, told-index)

  pub first-number : q.all ≡ false → (q.character ≡ 0 → ⊥) → done (Item.Single false q.character q.character q.index) ≡ first_item count p
  unfolding first_item pick
  first-number h z = rw (sym told-all ∙ h, ← told-character, told-index) (sym (first_some p q.character z))

  -- behind a dash
  pub last-refused : (f i : ℕ) → q.character ≡ 0 → refused Refusal.CharacterList q.index ≡ last_number f i p (character_number count p)
  unfolding last_number
  last-refused f i z = rw (sym told-character ∙ z, told-index)

  pub last-below : (f i : ℕ) → (q.character ≡ 0 → ⊥) → q.character < f → refused Refusal.CharacterList i ≡ last_number f i p (character_number count p)
  last-below f i z l = rw (← told-character) (sym (last-low f i p q.character z l))

  pub last-good : (f i : ℕ) → (q.character ≡ 0 → ⊥) → f ≤ q.character → done (Further.On (Item.Pair f q.character i)) ≡ last_number f i p (character_number count p)
  last-good f i z l = rw (← told-character) (sym (last-high f i p q.character z l))

  -- behind a `\`
  pub stride-refused : (f l : ℕ) → q.number ≡ 0 → refused Refusal.CharacterList q.index ≡ stride_number f l p (number p.own)
  unfolding stride_number
  stride-refused f l z = rw (sym told-number ∙ z, told-index)

  pub stride-good : (f l : ℕ) → (q.number ≡ 0 → ⊥) → done (Further.Past (range f l q.number) Item.Number) ≡ stride_number f l p (number p.own)
  stride-good f l z = rw (← told-number) (sym (stride-some f l p q.number z))
