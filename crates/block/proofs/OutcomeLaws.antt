-- Laws of outcomes: what a value at the end says of the steps before it. Assumes nothing.
use Prim.Native.Nat.{ℕ, zero, suc}
use Rattle.block.specs.Outcome.{Outcome, done, refused, then, fold, need}
use Rattle.lexer.specs.Base.{pick}
use Rattle.lexer.specs.declared.refusal.Refusal.{Refusal}
use lib.ListN.{get_or, set, replicate}
use mathlib.Core.Bool.{Bool, true, false}
use mathlib.Core.List.Memᴰ
use mathlib.Core.List.{List, [], ◌∷◌, ◌++◌, append_assoc, append-nil, Memᴰ}
use mathlib.Core.Logic.{⊎_elim}
use mathlib.Core.Option.{Option, none, some}
use mathlib.Core.Path.{◌≡◌, refl}
use native.Mathlib.Omega.{arith}

module _ {A : Type 0} where
  -- a refusal is no value
  pub refused-done : {X : Type 0} (n : Refusal) (i : ℕ) (a : A) → refused n i ≡ done a → X
  refused-done {X} n i a h = absurd (let z : ◌≡◌ {A = ℕ} 0 1 = cc in omega arith)

  pub need-done : (o : Option A) (n : Refusal) (i : ℕ) (a : A) → need o n i ≡ done a → o ≡ some a
  unfolding need
  need-done none n i a h = refused-done n i a h
  need-done (some x) n i a h = cc

  pub done_inj : {a b : A} → done a ≡ done b → a ≡ b
  done_inj {a} {b} h = cc

  -- a choice between a refusal and something else
  pub pick-else : (t : Bool) (n : Refusal) (i : ℕ) (o : Outcome A) (a : A) → pick t (refused n i) o ≡ done a → (t ≡ false) × (o ≡ done a)
  unfolding pick
  pick-else true n i o a h = refused-done n i a h
  pick-else false n i o a h = (refl, h)

  pub pick-when : (t : Bool) (n : Refusal) (i : ℕ) (o : Outcome A) (a : A) → pick t o (refused n i) ≡ done a → (t ≡ true) × (o ≡ done a)
  unfolding pick
  pick-when true n i o a h = (refl, h)
  pick-when false n i o a h = refused-done n i a h

  -- a choice between two outcomes, of which one came to a value
  pub pick-either : {X : Type 0} (t : Bool) (o p : Outcome A) (a : A) → (o ≡ done a → X) → (p ≡ done a → X) → pick t o p ≡ done a → X
  unfolding pick
  pick-either true o p a f g h = f h
  pick-either false o p a f g h = g h

  -- the same where the first may use that the test holds
  pub pick-test : {X : Type 0} (t : Bool) (o p : Outcome A) (a : A) → (t ≡ true → o ≡ done a → X) → (p ≡ done a → X) → pick t o p ≡ done a → X
  unfolding pick
  pick-test true o p a f g h = f refl h
  pick-test false o p a f g h = g h

module _ {A B : Type 0} where
  pub then-done : (o : Outcome A) (f : A → Outcome B) (b : B) → then o f ≡ done b → (a : A) × (o ≡ done a) × (f a ≡ done b)
  unfolding then
  then-done (done a) f b h = (a, refl, h)
  then-done (refused n i) f b h = refused-done n i b h

-- Something holds of every member of a list.
module _ {A : Type 0} where
  abbrev pub All : (A → Type 0) → List A → Type 0
  All P [] = Unit {0}
  All P (a ∷ r) = P a × All P r

  pub all_append : (P : A → Type 0) (l r : List A) → All P l → All P r → All P (l ++ r)
  all_append P [] r p q = q
  all_append P (a ∷ l) r p q = (p.0, all_append P l r p.1 q)

  pub all_one : (P : A → Type 0) (l : List A) (a : A) → All P l → P a → All P (l ++ (a ∷ []))
  all_one P l a p q = all_append P l (a ∷ []) p (q, tt)

  pub all_map : (P Q : A → Type 0) → ((a : A) → P a → Q a) → (l : List A) → All P l → All Q l
  all_map P Q f [] p = tt
  all_map P Q f (a ∷ l) p = (f a p.0, all_map P Q f l p.1)

  pub all_both : (P Q : A → Type 0) (l : List A) → All P l → All Q l → All (λ a. P a × Q a) l
  all_both P Q [] p q = tt
  all_both P Q (a ∷ l) p q = ((p.0, q.0), all_both P Q l p.1 q.1)

  -- what holds of all holds of each
  pub all-member : (P : A → Type 0) (l : List A) (a : A) → All P l → Memᴰ a l → P a
  all-member P [] a p m = absurd (Memᴰ.not-nil m)
  all-member P (b ∷ l) a p m = ⊎_elim (λ e. rw e p.0) (λ n. all-member P l a p.1 n) (Memᴰ.cases_cons m)

  -- every member is found among them
  pub members : (l : List A) → All (λ a. Memᴰ a l) l
  members [] = tt
  members (a ∷ l) = (Memᴰ.head refl, all_map (λ b. Memᴰ b l) (λ b. Memᴰ b (a ∷ l)) (λ b q. Memᴰ.tail q) l (members l))

  -- nothing is asked
  abbrev pub Any : A → Type 0
  Any a = Unit {0}

  pub all_any : (l : List A) → All Any l
  all_any [] = tt
  all_any (a ∷ l) = (tt, all_any l)

  -- something holds of an option's value, if there is one
  abbrev pub Opt : (A → Type 0) → Option A → Type 0
  Opt P none = Unit {0}
  Opt P (some a) = P a

  pub opt-map : (P Q : A → Type 0) → ((a : A) → P a → Q a) → (o : Option A) → Opt P o → Opt Q o
  opt-map P Q f none p = tt
  opt-map P Q f (some a) p = f a p

module _ {S W : Type 0} (turn : S → W → Outcome S) where
  -- one turn more behind a fold
  pub fold-one : (s : S) (ws : List W) (w : W) (t u : S) → fold turn s ws ≡ done t → turn t w ≡ done u → fold turn s (ws ++ (w ∷ [])) ≡ done u
  unfolding fold then
  fold-one s [] w t u h e = rw (done_inj h, e)
  fold-one s (v ∷ ws) w t u h e =
      let one = then-done (turn s v) (λ x. fold turn x ws) t h in
      rw one.1 (fold-one one.0 ws w t u one.2 e)

-- What holds at the start of a fold, and is kept by each turn, holds at its end.
module _ {S W : Type 0} (P : S → Type 0) (Q : W → Type 0) (turn : S → W → Outcome S) (keeps : (s : S) (w : W) (t : S) → P s → Q w → turn s w ≡ done t → P t) where
  pub fold-keeps : (s : S) (ws : List W) (t : S) → P s → All Q ws → fold turn s ws ≡ done t → P t
  unfolding fold
  fold-keeps s [] t p q h = rw (← done_inj h) p
  fold-keeps s (w ∷ ws) t p q h =
      let one = then-done (turn s w) (λ u. fold turn u ws) t h in
      fold-keeps one.0 ws t (keeps s w one.0 p q.0 one.1) q.1 one.2

-- The same where what holds may speak of the words passed so far.
module _ {S W : Type 0} (P : List W → S → Type 0) (turn : S → W → Outcome S) (start : S) (keeps : (before : List W) (s : S) (w : W) (t : S) → fold turn start before ≡ done s → P before s → turn s w ≡ done t → P (before ++ (w ∷ [])) t) where
  history-from : (before ws : List W) (s t : S) → fold turn start before ≡ done s → P before s → fold turn s ws ≡ done t → P (before ++ ws) t
  unfolding fold
  history-from before [] s t r p h = rw (append-nil before, ← done_inj h) p
  history-from before (w ∷ ws) s t r p h =
      let one = then-done (turn s w) (λ u. fold turn u ws) t h in
      rw append_assoc at (history-from (before ++ (w ∷ [])) ws one.0 t (fold-one turn start before w s one.0 r one.1) (keeps before s w one.0 r p one.1) one.2)

  pub fold-history : (ws : List W) (t : S) → P [] start → fold turn start ws ≡ done t → P ws t
  unfolding fold
  fold-history ws t p h = history-from [] ws start t refl p h

module _ {A : Type 0} where
  pub all_left : (P : A → Type 0) (l r : List A) → All P (l ++ r) → All P l
  all_left P [] r p = tt
  all_left P (a ∷ l) r p = (p.0, all_left P l r p.1)

  pub all_right : (P : A → Type 0) (l r : List A) → All P (l ++ r) → All P r
  all_right P [] r p = p
  all_right P (a ∷ l) r p = all_right P l r p.1

  pub all_set : (P : A → Type 0) (l : List A) (i : ℕ) (a : A) → All P l → P a → All P (set l i a)
  all_set P [] i a p q = tt
  all_set P (b ∷ l) zero a p q = (q, p.1)
  all_set P (b ∷ l) (suc i) a p q = (p.0, all_set P l i a p.1 q)

  pub all-at : (P : A → Type 0) (l : List A) (i : ℕ) (d : A) → All P l → P d → P (get_or l i d)
  all-at P [] i d p q = q
  all-at P (b ∷ l) zero d p q = p.0
  all-at P (b ∷ l) (suc i) d p q = all-at P l i d p.1 q

  pub all_replicate : (P : A → Type 0) (n : ℕ) (a : A) → P a → All P (replicate n a)
  all_replicate P zero a p = tt
  all_replicate P (suc n) a p = (p, all_replicate P n a p)
