-- What the arms of a `match` on a symbol say of a word: that it goes on, or that it stops. Assumes nothing.
use Rattle.lexer.specs.Classes.{rank, is_open, is_other, is_part}
use Rattle.lexer.specs.Scanning.{goes_on}
use Rattle.lexer.specs.declared.Symbol.{Symbol}
use mathlib.Core.Bool.{true, false}
use mathlib.Core.Logic.{◌⊎◌, inl, inr}
use mathlib.Core.Path.{◌≡◌, refl}

pub record Continues (s : Symbol) : Type 0 where
  pub closed : is_open s ≡ false
  pub on : goes_on s ≡ true

pub record Stops (s : Symbol) : Type 0 where
  pub closed : is_open s ≡ false
  pub over : goes_on s ≡ false

pub continues : (s : Symbol) → (s ≡ Symbol.Other) ⊎ (s ≡ Symbol.Part) → Continues s
unfolding rank is_open goes_on is_other is_part
continues s (inl e) = record { closed = rw e; on = rw e }
continues s (inr e) = record { closed = rw e; on = rw e }

pub stops : (s : Symbol) → (s ≡ Symbol.Other → ⊥) → (s ≡ Symbol.Part → ⊥) → (s ≡ Symbol.Open → ⊥) → Stops s
unfolding rank is_open goes_on is_other is_part
stops Symbol.Newline o p q = record { closed = refl; over = refl }
stops Symbol.Return o p q = record { closed = refl; over = refl }
stops Symbol.Blank o p q = record { closed = refl; over = refl }
stops Symbol.Single o p q = record { closed = refl; over = refl }
stops Symbol.Double o p q = record { closed = refl; over = refl }
stops Symbol.Open o p q = absurd (q refl)
stops Symbol.Close o p q = record { closed = refl; over = refl }
stops Symbol.Punctuation o p q = record { closed = refl; over = refl }
stops Symbol.Other o p q = absurd (o refl)
stops Symbol.Part o p q = absurd (p refl)
