-- Answers that are right, or say that work memory is short where it is. Assumes nothing.
use Rattle.block.specs.Outcome.{Outcome, then}
use Rattle.commands.specs.Stepping.{Answers, answered, short}
use mathlib.Core.Path.{◌≡◌, ap, ◌∙◌}

module _ {A : Type 0} {enough : Type 0} {answer right : Outcome A} where
  -- Where work memory is enough the answer is the right one.
  pub answers-right : Answers enough answer right → enough → answer ≡ right
  answers-right (answered e) p = e
  answers-right (short e n) p = absurd (n p)

  -- What is more than enough will do.
  pub answers-wider : {more : Type 0} → (more → enough) → Answers enough answer right → Answers more answer right
  answers-wider f (answered e) = answered e
  answers-wider f (short e n) = short e (λ p. n (f p))

  -- The same answer in other words.
  pub answers-as : {said meant : Outcome A} → said ≡ answer → right ≡ meant → Answers enough answer right → Answers enough said meant
  answers-as p q (answered e) = answered (p ∙ e ∙ q)
  answers-as p q (short e n) = short (p ∙ e) n

module _ {A B : Type 0} {enough : Type 0} {answer right : Outcome A} where
  -- What goes on from a right answer is right.
  pub answers-then : (f : A → Outcome B) → Answers enough answer right → Answers enough (then answer f) (then right f)
  unfolding then
  answers-then f (answered e) = answered (ap (λ (o : Outcome A). then o f) e)
  answers-then f (short e n) = short (ap (λ (o : Outcome A). then o f) e) n
