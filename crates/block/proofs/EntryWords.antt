-- What an entry gives by its words: a label by its first two, state labels by those behind, in one way only. Assumes nothing.
use Prim.Native.Nat.{ℕ}
use Rattle.block.proofs.ChunkSound.{some_inj}
use Rattle.block.proofs.EntriesCut.{only-entry, entry-only, first_entry, later-entry, cut-entry}
use Rattle.block.proofs.LabelsGained.{Item, its_label, its_states}
use Rattle.block.specs.LabelOrder.{comma, slash, no_comma, EntryOf, EntryLabel, before_states, EntryStates}
use Rattle.block.specs.declared.kinds.Labelling.{Labelling}
use Rattle.lexer.proofs.Basics.{and_left, not-both}
use Rattle.lexer.specs.Words.{Numbered, label, number}
use borrow.Author.Tests.{not-true}
use mathlib.Core.Bool.{true, false, not, true≢false}
use mathlib.Core.List.{List, [], ◌∷◌, ◌++◌, map, head-eq_of_cons-eq, tail-eq_of_cons-eq, nil≢cons, cons≢nil}
use mathlib.Core.Logic.{◌↔◌, ◌⊎◌, inl, inr, ⊎_elim}
use mathlib.Core.Option.{some}
use mathlib.Core.Path.{◌≡◌, refl, sym, ap, ◌∙◌, subst}

-- The label that an entry gives, and all that it gives.
abbrev pub Names : Labelling → List Numbered → ℕ → List ℕ → Type 0
Names Labelling.CharLabels o k n = ⊥
Names Labelling.StateLabels o k n = ⊥
Names Labelling.CharStateLabels o k n = EntryLabel o k n

abbrev pub NameOf : Labelling → List Numbered → Item → Type 0
NameOf what o (its_label k n) = Names what o k n
NameOf what o (its_states k s) = ⊥

abbrev pub EntryGives : Labelling → List Numbered → Item → Type 0
EntryGives what o (its_label k n) = Names what o k n
EntryGives what o (its_states k s) = EntryStates what o k s

-- What the entries of these words give.
abbrev pub EntriesGive : Labelling → List Numbered → Item → Type 0
EntriesGive what ws g = (entry : List Numbered) × EntryOf ws entry × EntryGives what entry g

module _ (what : Labelling) where
  pub only-gives : (o : List Numbered) → no_comma o ≡ true → (g : Item) → EntryGives what o g ↔ EntriesGive what o g
  only-gives o p g = (λ h. (o, only-entry o p, h), λ h. subst (λ e. EntryGives what e g) (entry-only o h.0 p h.1) h.2)

  pub cut-gives : (o : List Numbered) (c : Numbered) (ws : List Numbered) → no_comma o ≡ true → comma c ≡ true → (g : Item)
      → (EntryGives what o g ⊎ EntriesGive what ws g) ↔ EntriesGive what (o ++ (c ∷ ws)) g
  cut-gives o c ws p e g = (give, come)
    where
      give : EntryGives what o g ⊎ EntriesGive what ws g → EntriesGive what (o ++ (c ∷ ws)) g
      give (inl h) = (o, first_entry c ws e o p, h)
      give (inr h) = (h.0, later-entry c ws e o h.0 h.1, h.2)

      come : EntriesGive what (o ++ (c ∷ ws)) g → EntryGives what o g ⊎ EntriesGive what ws g
      come h =
          ⊎_elim (λ x. inl (subst (λ y. EntryGives what y g) x h.2)) (λ x. inr (h.0, x, h.2)) (cut-entry c ws e o h.0 p h.1)

-- An entry's label is in its first two words.
pub label-words : (w v : Numbered) (r : List Numbered) (k : ℕ) (n : List ℕ)
    → EntryLabel (w ∷ v ∷ r) k n ↔ ((number w ≡ k) × (slash v ≡ false) × (label v ≡ some n))
label-words w v r k n = (parts, λ h. record { first = w; second = v; rest = r; words = refl; numbered = h.0; unmarked = h.1; named = h.2 })
  where
    parts : EntryLabel (w ∷ v ∷ r) k n → (number w ≡ k) × (slash v ≡ false) × (label v ≡ some n)
    parts h =
        let one = head-eq_of_cons-eq h.words in
        let two = head-eq_of_cons-eq (tail-eq_of_cons-eq h.words) in
        (rw one h.numbered, rw two h.unmarked, rw two h.named)

pub name-words : (what : Labelling) (w v : Numbered) (r q : List Numbered) (g : Item) → NameOf what (w ∷ v ∷ r) g ↔ NameOf what (w ∷ v ∷ q) g
name-words Labelling.CharLabels w v r q (its_label k n) = (λ h. h, λ h. h)
name-words Labelling.StateLabels w v r q (its_label k n) = (λ h. h, λ h. h)
name-words Labelling.CharStateLabels w v r q (its_label k n) =
    (λ h. (label-words w v q k n).1 ((label-words w v r k n).0 h), λ h. (label-words w v r k n).1 ((label-words w v q k n).0 h))
name-words what w v r q (its_states k s) = (λ h. h, λ h. h)

-- Fewer than two words have no label.
pub no_name : (what : Labelling) (g : Item) → ¬ NameOf what [] g
no_name Labelling.CharLabels (its_label k n) h = h
no_name Labelling.StateLabels (its_label k n) h = h
no_name Labelling.CharStateLabels (its_label k n) h = nil≢cons h.words
no_name what (its_states k s) h = h

pub number-alone : (what : Labelling) (w : Numbered) (g : Item) → ¬ NameOf what (w ∷ []) g
number-alone Labelling.CharLabels w (its_label k n) h = h
number-alone Labelling.StateLabels w (its_label k n) h = h
number-alone Labelling.CharStateLabels w (its_label k n) h = nil≢cons (tail-eq_of_cons-eq h.words)
number-alone what w (its_states k s) h = h

-- What stands before the state labels is the same in every way to read an entry, and so are the state labels.
front-once : (what : Labelling) (f g l m : List Numbered) → before_states what f ≡ true → before_states what g ≡ true → f ++ l ≡ g ++ m → l ≡ m
unfolding before_states
front-once Labelling.CharLabels f g l m p q e = absurd (true≢false (sym p))
front-once Labelling.StateLabels [] [] l m p q e = e
front-once Labelling.StateLabels [] (y ∷ g) l m p q e = absurd (true≢false (sym q))
front-once Labelling.StateLabels (x ∷ f) g l m p q e = absurd (true≢false (sym p))
front-once Labelling.CharStateLabels [] g l m p q e = absurd (true≢false (sym p))
front-once Labelling.CharStateLabels (x ∷ f) [] l m p q e = absurd (true≢false (sym q))
front-once Labelling.CharStateLabels (x ∷ []) (y ∷ []) l m p q e = tail-eq_of_cons-eq e
front-once Labelling.CharStateLabels (x ∷ []) (y ∷ b ∷ []) l m p q e =
    not-both (not-true (slash y) (and_left (not (slash y)) (slash b) q)) (ap slash (sym (head-eq_of_cons-eq e)) ∙ p)
front-once Labelling.CharStateLabels (x ∷ a ∷ []) (y ∷ []) l m p q e =
    not-both (not-true (slash x) (and_left (not (slash x)) (slash a) p)) (ap slash (head-eq_of_cons-eq e) ∙ q)
front-once Labelling.CharStateLabels (x ∷ a ∷ []) (y ∷ b ∷ []) l m p q e = tail-eq_of_cons-eq (tail-eq_of_cons-eq e)
front-once Labelling.CharStateLabels (x ∷ []) (y ∷ b ∷ d ∷ g) l m p q e = absurd (true≢false (sym q))
front-once Labelling.CharStateLabels (x ∷ a ∷ []) (y ∷ b ∷ d ∷ g) l m p q e = absurd (true≢false (sym q))
front-once Labelling.CharStateLabels (x ∷ a ∷ c ∷ f) (y ∷ g) l m p q e = absurd (true≢false (sym p))

names-once : (s r : List (List ℕ)) → map some s ≡ map some r → s ≡ r
names-once [] [] e = refl
names-once [] (m ∷ r) e = absurd (nil≢cons e)
names-once (n ∷ s) [] e = absurd (cons≢nil e)
names-once (n ∷ s) (m ∷ r) e =
    let one : n ≡ m = some_inj (head-eq_of_cons-eq e) in
    let more : s ≡ r = names-once s r (tail-eq_of_cons-eq e) in
    cc

pub states-once : (what : Labelling) (o : List Numbered) (j k : ℕ) (s r : List (List ℕ)) → EntryStates what o j s → EntryStates what o k r → its_states k r ≡ its_states j s
states-once what o j k s r p q =
    let words = sym p.words ∙ q.words in
    let same : p.last ≡ q.last = front-once what p.front q.front p.last q.last p.fronted q.fronted (tail-eq_of_cons-eq words) in
    let named : s ≡ r = names-once s r (sym p.named ∙ ap (map label) same ∙ q.named) in
    let number : j ≡ k = sym p.numbered ∙ ap number (head-eq_of_cons-eq words) ∙ q.numbered in
    cc

-- A word behind the state labels changes nothing in the label.
states-keep-name : (what : Labelling) (w : Numbered) (f l : List Numbered) (x : Numbered) (g : Item) → before_states what f ≡ true
    → NameOf what (w ∷ (f ++ l)) g ↔ NameOf what (w ∷ ((f ++ l) ++ (x ∷ []))) g
unfolding before_states
states-keep-name Labelling.CharLabels w f l x g p = absurd (true≢false (sym p))
states-keep-name Labelling.StateLabels w f l x (its_label k n) p = (λ h. h, λ h. h)
states-keep-name Labelling.StateLabels w f l x (its_states k s) p = (λ h. h, λ h. h)
states-keep-name Labelling.CharStateLabels w [] l x g p = absurd (true≢false (sym p))
states-keep-name Labelling.CharStateLabels w (v ∷ f) l x g p = name-words Labelling.CharStateLabels w v (f ++ l) ((f ++ l) ++ (x ∷ [])) g

pub name-behind : (what : Labelling) (o : List Numbered) (k : ℕ) (s : List (List ℕ)) (x : Numbered) (g : Item) → EntryStates what o k s
    → NameOf what o g ↔ NameOf what (o ++ (x ∷ [])) g
name-behind what o k s x g p = rw p.words (states-keep-name what p.first p.front p.last x g p.fronted)

-- No words have no state labels; nor has a number alone, nor a number and a label alone.
pub none-states : (what : Labelling) (k : ℕ) (s : List (List ℕ)) → ¬ EntryStates what [] k s
none-states what k s p = nil≢cons p.words

front-unmarked : (v : Numbered) (f l : List Numbered) → slash v ≡ false → before_states Labelling.CharStateLabels f ≡ true → v ∷ [] ≡ f ++ l → ⊥
unfolding before_states
front-unmarked v [] l u p e = true≢false (sym p)
front-unmarked v (x ∷ []) l u p e = not-both u (ap slash (head-eq_of_cons-eq e) ∙ p)
front-unmarked v (x ∷ y ∷ f) l u p e = nil≢cons (tail-eq_of_cons-eq e)

pub unmarked-states : (w v : Numbered) (k : ℕ) (s : List (List ℕ)) → slash v ≡ false → ¬ EntryStates Labelling.CharStateLabels (w ∷ v ∷ []) k s
unmarked-states w v k s u p = front-unmarked v p.front p.last u p.fronted (tail-eq_of_cons-eq p.words)

front-missing : (f l : List Numbered) → before_states Labelling.CharStateLabels f ≡ true → [] ≡ f ++ l → ⊥
unfolding before_states
front-missing [] l p e = true≢false (sym p)
front-missing (x ∷ f) l p e = nil≢cons e

pub number-states : (w : Numbered) (k : ℕ) (s : List (List ℕ)) → ¬ EntryStates Labelling.CharStateLabels (w ∷ []) k s
number-states w k s p = front-missing p.front p.last p.fronted (tail-eq_of_cons-eq p.words)
