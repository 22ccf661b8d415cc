-- What a step of reading comes to: a value, or the refusal of the token with an index.
use Rattle.std.specs.Prelude.{ℕ, List, [], ◌∷◌, Result, Ok, Err}
use Rattle.lexer.specs.declared.Fault.{Fault}
use Rattle.lexer.specs.declared.refusal.Refusal.{Refusal}
use Rattle.std.proofs.Math.Option.{Option, none, some}

pub data Outcome (A : Type 0) : Type 0 where
  done : A → Outcome A
  refused : Refusal → ℕ → Outcome A

module _ {A : Type 0} where
  -- What the code answers: a value, or a fault at a token.
  unfoldable pub outcome : Result A (Fault ℕ) → Outcome A
  outcome (Ok a) = done a
  outcome (Err f) = refused f.0 f.1

module _ {A B : Type 0} where
  -- The first refusal stands; a value goes on.
  unfoldable pub then : Outcome A → (A → Outcome B) → Outcome B
  then (done a) f = f a
  then (refused n i) f = refused n i

  -- A value as something else.
  unfoldable pub mapped : (A → B) → Outcome A → Outcome B
  mapped f (done a) = done (f a)
  mapped f (refused n i) = refused n i

module _ {S W : Type 0} where
  -- One turn for each word, from the front, up to the first refusal.
  unfoldable pub fold : (S → W → Outcome S) → S → List W → Outcome S
  fold turn s [] = done s
  fold turn s (w ∷ r) = then (turn s w) (λ t. fold turn t r)

module _ {A : Type 0} where
  -- A value that must be there, or a refusal.
  unfoldable pub need : Option A → Refusal → ℕ → Outcome A
  need none n i = refused n i
  need (some a) n i = done a
