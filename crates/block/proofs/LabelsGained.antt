-- What a list of characters has gained in labels and state labels, and that a label or state labels set once are gained. Assumes nothing.
use Prim.Native.Nat.{ℕ, ◌-◌, ◌≤◌}
use Rattle.block.proofs.ChunkSound.{some_inj}
use Rattle.block.specs.Labels.{Labelled, unlabelled, character, with_label, with_states}
use Rattle.lexer.proofs.Basics.{by-test, not-both}
use Rattle.lexer.specs.Base.{given}
use borrow.Author.Tests.{eqb-true, eqb-false}
use lib.Dec.{eqb}
use lib.ListN.{length, set, length-set}
use lib.Seq.{get_or-set_same, get_or-set_other}
use mathlib.Core.Bool.{true, false}
use mathlib.Core.List.{List}
use mathlib.Core.Logic.{◌↔◌, ◌⊎◌, inl, inr, ⊎_elim}
use mathlib.Core.Option.{Option, some}
use mathlib.Core.Path.{◌≡◌, refl, ap, ◌∙◌}
use native.Mathlib.Omega.{arith}

-- A label, or state labels, of the character with a number.
pub data Item : Type 0 where
  its_label : ℕ → List ℕ → Item
  its_states : ℕ → List (List ℕ) → Item

abbrev pub whose : Item → ℕ
whose (its_label k n) = k
whose (its_states k s) = k

-- A character has it.
abbrev pub Of : Labelled → Item → Type 0
Of c (its_label k n) = c.label ≡ some n
Of c (its_states k s) = c.states ≡ some s

abbrev pub Has : List Labelled → Item → Type 0
Has cs g = Of (character (whose g) cs) g

-- The second list has what the first has, and these besides.
pub record Gained (cs ds : List Labelled) (G : Item → Type 0) : Type 0 where
  pub sized : length ds ≡ length cs
  pub has : (g : Item) → 1 ≤ whose g → whose g ≤ length cs → Has ds g ↔ (Has cs g ⊎ G g)

module _ {cs ds : List Labelled} {G : Item → Type 0} where
  pub gained-then : {es : List Labelled} {H : Item → Type 0} → Gained cs ds G → Gained ds es H → Gained cs es (λ g. G g ⊎ H g)
  gained-then {es} {H} p q = record { sized = q.sized ∙ p.sized; has = λ g l u. (come g l u, given_it g l u) }
    where
      come : (g : Item) → 1 ≤ whose g → whose g ≤ length cs → Has es g → Has cs g ⊎ (G g ⊎ H g)
      come g l u h =
          ⊎_elim (λ x. ⊎_elim (λ y. inl y) (λ y. inr (inl y)) ((p.has g l u).0 x)) (λ x. inr (inr x)) ((q.has g l (rw p.sized u)).0 h)

      given_it : (g : Item) → 1 ≤ whose g → whose g ≤ length cs → Has cs g ⊎ (G g ⊎ H g) → Has es g
      given_it g l u (inl x) = (q.has g l (rw p.sized u)).1 (inl ((p.has g l u).1 (inl x)))
      given_it g l u (inr (inl x)) = (q.has g l (rw p.sized u)).1 (inl ((p.has g l u).1 (inr x)))
      given_it g l u (inr (inr x)) = (q.has g l (rw p.sized u)).1 (inr x)

  pub gained-map : {H : Item → Type 0} → ((g : Item) → G g ↔ H g) → Gained cs ds G → Gained cs ds H
  gained-map {H} f p =
      record {
        sized = p.sized;
        has = λ g l u. (λ h. ⊎_elim (λ x. inl x) (λ x. inr ((f g).0 x)) ((p.has g l u).0 h), λ h. (p.has g l u).1 (⊎_elim (λ x. inl x) (λ x. inr ((f g).1 x)) h));
      }

pub gained-none : {cs : List Labelled} {G : Item → Type 0} → ((g : Item) → ¬ G g) → Gained cs cs G
gained-none {cs} {G} f = record { sized = refl; has = λ g l u. (λ h. inl h, λ h. ⊎_elim (λ x. x) (λ x. absurd (f g x)) h) }

-- What is not given is none.
module _ {A : Type 0} where
  pub not-given : {X : Type 0} (o : Option A) (a : A) → given o ≡ false → o ≡ some a → X
  unfolding given
  not-given o a e h = not-both e (ap given h)

-- A character that is set, and the others.
module _ (cs : List Labelled) (j : ℕ) (low : 1 ≤ j) (high : j ≤ length cs) where
  character-set : (x : Labelled) → character j (set cs (j - 1) x) ≡ x
  unfolding character
  character-set x = get_or-set_same cs (j - 1) x unlabelled (omega arith)

  other-character : (k : ℕ) (x : Labelled) → 1 ≤ k → eqb k j ≡ false → character k (set cs (j - 1) x) ≡ character k cs
  unfolding character
  other-character k x l e = get_or-set_other cs (j - 1) (k - 1) x unlabelled (λ p. eqb-false k j e (omega arith))

  set-gained : (x : Labelled) (new : Item) → whose new ≡ j → ((g : Item) → whose g ≡ j → Of x g ↔ (Of (character j cs) g ⊎ (g ≡ new)))
      → Gained cs (set cs (j - 1) x) (λ g. g ≡ new)
  set-gained x new its f = record { sized = length-set cs (j - 1) x; has = λ g l u. by-test (eqb (whose g) j) (this g) (other g l) }
    where
      this : (g : Item) → eqb (whose g) j ≡ true → Has (set cs (j - 1) x) g ↔ (Has cs g ⊎ (g ≡ new))
      this g e = let same = eqb-true (whose g) j e in rw (same, character-set x) (f g same)

      other : (g : Item) → 1 ≤ whose g → eqb (whose g) j ≡ false → Has (set cs (j - 1) x) g ↔ (Has cs g ⊎ (g ≡ new))
      other g l e =
          rw (other-character (whose g) x l e) (λ h. inl h, λ h. ⊎_elim (λ y. y) (λ y. absurd (eqb-false (whose g) j e (ap whose y ∙ its))) h)

  -- a label, or state labels, that were not given are gained
  pub label-gained : (n : List ℕ) → given (character j cs).label ≡ false → Gained cs (with_label j n cs) (λ g. g ≡ its_label j n)
  unfolding with_label
  label-gained n free = set-gained new (its_label j n) refl at_j
    where
      new : Labelled
      new = record { label = some n; states = (character j cs).states }

      at_j : (g : Item) → whose g ≡ j → Of new g ↔ (Of (character j cs) g ⊎ (g ≡ its_label j n))
      at_j (its_label k m) e =
          (λ h. inr (let same = some_inj h in cc), λ h. ⊎_elim (λ x. not-given (character j cs).label m free x) (λ x. cc) h)
      at_j (its_states k s) e = (λ h. inl h, λ h. ⊎_elim (λ x. x) (λ x. apart x) h)
        where
          apart : its_states k s ≡ its_label j n → (character j cs).states ≡ some s
          apart x = absurd (let z : ◌≡◌ {A = ℕ} 0 1 = cc in omega arith)

  pub states-gained : (s : List (List ℕ)) → given (character j cs).states ≡ false → Gained cs (with_states j s cs) (λ g. g ≡ its_states j s)
  unfolding with_states
  states-gained s free = set-gained new (its_states j s) refl at_j
    where
      new : Labelled
      new = record { label = (character j cs).label; states = some s }

      at_j : (g : Item) → whose g ≡ j → Of new g ↔ (Of (character j cs) g ⊎ (g ≡ its_states j s))
      at_j (its_states k r) e =
          (λ h. inr (let same = some_inj h in cc), λ h. ⊎_elim (λ x. not-given (character j cs).states r free x) (λ x. cc) h)
      at_j (its_label k m) e = (λ h. inl h, λ h. ⊎_elim (λ x. x) (λ x. apart x) h)
        where
          apart : its_label k m ≡ its_states j s → (character j cs).label ≡ some m
          apart x = absurd (let z : ◌≡◌ {A = ℕ} 0 1 = cc in omega arith)
