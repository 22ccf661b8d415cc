-- Words that are taken from others weigh no more than these. Assumes nothing.
use Prim.Native.Nat.{ℕ, suc, ◌+◌, ◌≤◌}
use Rattle.block.proofs.OutcomeLaws.{then-done, done_inj}
use Rattle.block.specs.Commands.{newline, semicolon, up_to_end, words}
use Rattle.block.specs.Outcome.{Outcome, done, fold}
use Rattle.block.specs.Weights.{total, weights}
use Rattle.lexer.proofs.Basics.{by-test}
use Rattle.lexer.proofs.TokenSizes.{size}
use Rattle.lexer.specs.Base.{pick}
use Rattle.lexer.specs.Tokens.{Token}
use Rattle.lexer.specs.Words.{Numbered, numbered}
use lib.ListN.{length}
use mathlib.Core.List.{List, [], ◌∷◌, ◌++◌}
use mathlib.Core.Path.{◌≡◌, refl}
use native.Mathlib.Omega.{arith}

module _ {A : Type 0} where
  pub total-append : (f : A → ℕ) (l r : List A) → total f (l ++ r) ≡ total f l + total f r
  total-append f [] r = omega arith
  total-append f (a ∷ l) r = let k = total-append f l r in omega arith

  -- Where each weighs at least one, they are no more than they weigh.
  pub total-few : (f : A → ℕ) → ((a : A) → 1 ≤ f a) → (l : List A) → length l ≤ total f l
  total-few f one [] = omega arith
  total-few f one (a ∷ l) =
      let k = total-few f one l in
      let h = one a in
      omega arith

-- A step that comes to a value with so much load at most.
module _ {S : Type 0} (load : S → ℕ) where
  pub done-light : (s t : S) (n : ℕ) → load s ≤ n → done s ≡ done t → load t ≤ n
  done-light s t n p h = rw (← done_inj h) p

-- Where a turn adds at most the weight of its word, a fold adds at most the weight of all.
module _ {S W : Type 0} (load : S → ℕ) (heavy : W → ℕ) (turn : S → W → Outcome S) (grows : (s : S) (w : W) (t : S) → turn s w ≡ done t → load t ≤ load s + heavy w) where
  pub fold-grows : (s : S) (ws : List W) (t : S) → fold turn s ws ≡ done t → load t ≤ load s + total heavy ws
  unfolding fold
  fold-grows s [] t h = rw (← done_inj h) (omega arith)
  fold-grows s (w ∷ ws) t h =
      let one = then-done (turn s w) (λ u. fold turn u ws) t h in
      let first = grows s w one.0 one.1 in
      let more = fold-grows one.0 ws t one.2 in
      omega arith

pub numbered-weights : (i : ℕ) (ts : List Token) → weights (numbered i ts) ≡ size ts
unfolding numbered size
numbered-weights i [] = refl
numbered-weights i (t ∷ r) = let k = numbered-weights (suc i) r in omega arith

pub words-light : (raw : List Numbered) → weights (words raw) ≤ weights raw
unfolding words pick
words-light [] = omega arith
words-light (w ∷ r) = let k = words-light r in by-test (newline w) (λ e. rw e (omega arith)) (λ e. rw e (omega arith))

pub to-end-light : (ws : List Numbered) → weights (up_to_end ws) ≤ weights ws
unfolding up_to_end pick
to-end-light [] = omega arith
to-end-light (w ∷ r) = let k = to-end-light r in by-test (semicolon w) (λ e. rw e (omega arith)) (λ e. rw e (omega arith))
