-- What an outcome comes to: a value with a property, or a refusal at an index that may be refused so. Assumes nothing.
use Prim.Native.Nat.{ℕ}
use Rattle.block.proofs.OutcomeLaws.{All, fold-one}
use Rattle.block.specs.Outcome.{Outcome, done, refused, then, fold, need}
use Rattle.lexer.proofs.Basics.{chosen}
use Rattle.lexer.specs.Base.{pick}
use Rattle.lexer.specs.declared.refusal.Refusal.{Refusal}
use mathlib.Core.Bool.{Bool, true, false}
use mathlib.Core.List.{List, [], ◌∷◌, ◌++◌, append_assoc, append-nil}
use mathlib.Core.Option.{Option, none, some}
use mathlib.Core.Path.{◌≡◌, refl, sym, ◌∙◌}

-- Which refusals may name which index.
abbrev pub Faults : Type 1
Faults = Refusal → ℕ → Type 0

pub data Ends (R : Faults) {A : Type 0} (P : A → Type 0) : Outcome A → Type 0 where
  gives : {a : A} → P a → Ends R P (done a)
  refuses : {n : Refusal} {i : ℕ} → R n i → Ends R P (refused n i)

-- What else is known of an outcome that is a refusal.
pub refusals : (R S : Faults) {A : Type 0} {P : A → Type 0} {o : Outcome A} → ((n : Refusal) (i : ℕ) → o ≡ refused n i → R n i → S n i) → Ends R P o → Ends S P o
refusals R S f (gives p) = gives p
refusals R S f (refuses {n = n} {i = i} r) = refuses (f n i refl r)

module _ (R : Faults) where
  module _ {A : Type 0} {P : A → Type 0} where
    -- a choice between two outcomes, each under its test
    pub either : (t : Bool) {o p : Outcome A} → (t ≡ true → Ends R P o) → (t ≡ false → Ends R P p) → Ends R P (pick t o p)
    either t f g = chosen (Ends R P) t f g

    -- a choice whose test says nothing
    pub both : (t : Bool) {o p : Outcome A} → Ends R P o → Ends R P p → Ends R P (pick t o p)
    both t f g = chosen (Ends R P) t (λ e. f) (λ e. g)

    pub needed : (o : Option A) (n : Refusal) (i : ℕ) → (o ≡ none → R n i) → ((a : A) → o ≡ some a → P a) → Ends R P (need o n i)
    unfolding need
    needed none n i f g = refuses (f refl)
    needed (some a) n i f g = gives (g a refl)

    -- a value that the outcome came to
    pub come : {o : Outcome A} → Ends R P o → Ends R (λ a. P a × (o ≡ done a)) o
    come (gives p) = gives (p, refl)
    come (refuses r) = refuses r

  module _ {A B : Type 0} {P : A → Type 0} {S : B → Type 0} where
    pub then-ends : {o : Outcome A} {f : A → Outcome B} → Ends R P o → ((a : A) → P a → Ends R S (f a)) → Ends R S (then o f)
    unfolding then
    then-ends (gives {a = a} p) g = g a p
    then-ends (refuses r) g = refuses r

  module _ {A W : Type 0} (P : A → Type 0) (Q : W → Type 0) (turn : A → W → Outcome A) (keeps : (s : A) (w : W) → P s → Q w → Ends R P (turn s w)) where
    pub fold-ends : (s : A) (ws : List W) → P s → All Q ws → Ends R P (fold turn s ws)
    unfolding fold
    fold-ends s [] p q = gives p
    fold-ends s (w ∷ ws) p q = then-ends (keeps s w p q.0) (λ t k. fold-ends t ws k q.1)

  -- The same where each turn may speak of the words before it and behind it, and what holds at the end of the turns that led there.
  module _ {A W : Type 0} (P : A → Type 0) (turn : A → W → Outcome A) (start : A) (all : List W) (keeps : (before : List W) (w : W) (after : List W) (s : A) → all ≡ before ++ (w ∷ after) → fold turn start before ≡ done s → P s → Ends R P (turn s w)) where
    from-ends : (before ws : List W) (s : A) → all ≡ before ++ ws → fold turn start before ≡ done s → P s → Ends R (λ t. P t × (fold turn start all ≡ done t)) (fold turn s ws)
    unfolding fold
    from-ends before [] s e r p = gives (p, rw (e, append-nil before) r)
    from-ends before (w ∷ ws) s e r p =
        then-ends (come (keeps before w ws s e r p)) (λ t k. from-ends (before ++ (w ∷ [])) ws t (e ∙ sym (append_assoc before (w ∷ []) ws)) (fold-one turn start before w s t r k.1) k.0)

    pub reached-ends : P start → Ends R (λ t. P t × (fold turn start all ≡ done t)) (fold turn start all)
    unfolding fold
    reached-ends p = from-ends [] all start refl refl p
