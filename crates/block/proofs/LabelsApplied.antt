-- The label commands of a data block, applied: a character has exactly what they give it. Assumes nothing.
use Prim.Native.Nat.{ℕ, zero, suc, ◌-◌, ◌≤◌, ◌<◌}
use Rattle.block.proofs.ChunkSound.{none-some}
use Rattle.block.proofs.EntriesFollow.{entries-gained}
use Rattle.block.proofs.EntryWords.{EntriesGive}
use Rattle.block.proofs.LabelsGained.{Item, its_label, its_states, whose, Has, Gained, gained-then, gained-map, gained-none, not-given}
use Rattle.block.proofs.OutcomeLaws.{then-done, need-done, pick-else, pick-when, done_inj}
use Rattle.block.specs.LabelOrder.{Kth, before_states, GivesLabel, GivesStates}
use Rattle.block.specs.Labels.{Labelled, unlabelled, LabelCommand, label_each, char_labels, character, label_command, apply_labels}
use Rattle.block.specs.Outcome.{done, fold, need}
use Rattle.block.specs.declared.kinds.Labelling.{Labelling}
use Rattle.lexer.specs.Base.{given}
use Rattle.lexer.specs.Words.{Numbered, label}
use Rattle.lexer.specs.declared.refusal.Refusal.{Refusal}
use borrow.Author.Tests.{eqb-true}
use lib.Dec.{eqb}
use lib.ListN.{length, get_or, replicate, length-replicate, get_or-replicate}
use mathlib.Core.Bool.{true, false, true≢false}
use mathlib.Core.List.Memᴰ
use mathlib.Core.List.{List, [], ◌∷◌, ◌++◌, Memᴰ, head-eq_of_cons-eq, tail-eq_of_cons-eq}
use mathlib.Core.Logic.{◌↔◌, ◌⊎◌, inl, inr, ⊎_elim}
use mathlib.Core.Option.{some}
use mathlib.Core.Path.{◌≡◌, refl, sym, ap, ◌∙◌, subst}
use native.Mathlib.Omega.{arith}

-- The first of a list, and the others.
module _ {A : Type 0} (a : A) (l : List A) where
  kth-head : Kth (a ∷ l) 1 a
  kth-head = record { before = []; after = l; here = refl; counted = refl }

  kth-first : (b : A) → Kth (a ∷ l) 1 b → b ≡ a
  kth-first b p = go p.before p.here p.counted
    where
      go : (before : List A) → a ∷ l ≡ before ++ (b ∷ p.after) → suc (length before) ≡ 1 → b ≡ a
      go [] e c = sym (head-eq_of_cons-eq e)
      go (x ∷ before) e c = absurd (omega arith)

  kth-later : (k : ℕ) (b : A) → Kth l k b → Kth (a ∷ l) (suc k) b
  kth-later k b p = record { before = a ∷ p.before; after = p.after; here = ap (λ r. a ∷ r) p.here; counted = ap suc p.counted }

  kth-behind : (i : ℕ) (b : A) → Kth (a ∷ l) (suc (suc i)) b → Kth l (suc i) b
  kth-behind i b p = go p.before p.here p.counted
    where
      go : (before : List A) → a ∷ l ≡ before ++ (b ∷ p.after) → suc (length before) ≡ suc (suc i) → Kth l (suc i) b
      go [] e c = absurd (omega arith)
      go (x ∷ before) e c = record { before = before; after = p.after; here = tail-eq_of_cons-eq e; counted = omega arith }

-- What a command gives.
abbrev pub Gives : Labelling → List Numbered → Item → Type 0
Gives what ws (its_label k n) = GivesLabel what ws k n
Gives what ws (its_states k s) = GivesStates what ws k s

-- CHARLABELS
record Each (cs : List Labelled) (ws : List Numbered) (ds : List Labelled) : Type 0 where
  sized : length ds ≡ length cs
  label : (i : ℕ) → i < length cs → (n : List ℕ) → ((get_or ds i unlabelled).label ≡ some n) ↔ (((get_or cs i unlabelled).label ≡ some n) ⊎ GivesLabel Labelling.CharLabels ws (suc i) n)
  states : (i : ℕ) → (get_or ds i unlabelled).states ≡ (get_or cs i unlabelled).states

each-labelled : (cs : List Labelled) (ws : List Numbered) (ds : List Labelled) → length ws ≡ length cs → label_each cs ws ≡ done ds → Each cs ws ds
unfolding label_each
each-labelled [] ws ds same h = rw (← done_inj h) (record { sized = refl; label = λ i u n. absurd (omega arith); states = λ i. refl })
each-labelled (c ∷ cs) [] ds same h = absurd (omega arith)
each-labelled (c ∷ cs) (w ∷ ws) ds same h =
    let free = pick-else (given c.label) Refusal.LabelEntry w.index _ ds h in
    let n = then-done (need (label w) Refusal.NotName w.index) _ ds free.1 in
    let m = then-done (label_each cs ws) _ ds n.2 in
    let named = need-done (label w) Refusal.NotName w.index n.0 n.1 in
    rw (← done_inj m.2) (one n.0 named free.0 m.0 (each-labelled cs ws m.0 (omega arith) m.1))
  where
    one : (n : List ℕ) → label w ≡ some n → given c.label ≡ false → (r : List Labelled) → Each cs ws r
        → Each (c ∷ cs) (w ∷ ws) (record { label = some n; states = c.states } ∷ r)
    one n named free r more = record { sized = ap suc more.sized; label = labels; states = states }
      where
        new : Labelled
        new = record { label = some n; states = c.states }

        labels : (i : ℕ) → i < length (c ∷ cs) → (m : List ℕ) → ((get_or (new ∷ r) i unlabelled).label ≡ some m) ↔ (((get_or (c ∷ cs) i unlabelled).label ≡ some m) ⊎ GivesLabel Labelling.CharLabels (w ∷ ws) (suc i) m)
        labels zero u m = (
          λ h. inr (w, kth-head w ws, named ∙ h),
          λ h. ⊎_elim (λ x. not-given c.label m free x) (λ x. sym named ∙ ap label (sym (kth-first w ws x.0 x.1)) ∙ x.2) h,
        )
        labels (suc i) u m = (
          λ h. ⊎_elim (λ x. inl x) (λ x. inr (x.0, kth-later w ws (suc i) x.0 x.1, x.2)) ((more.label i (omega arith) m).0 h),
          λ h. (more.label i (omega arith) m).1 (⊎_elim (λ x. inl x) (λ x. inr (x.0, kth-behind w ws i x.0 x.1, x.2)) h),
        )

        states : (i : ℕ) → (get_or (new ∷ r) i unlabelled).states ≡ (get_or (c ∷ cs) i unlabelled).states
        states zero = refl
        states (suc i) = more.states i

no-states : (ws : List Numbered) (k : ℕ) (s : List (List ℕ)) → ¬ GivesStates Labelling.CharLabels ws k s
unfolding before_states
no-states ws k s h = true≢false (sym h.2.fronted)

each-gained : (head : ℕ) (ws : List Numbered) (cs ds : List Labelled) → char_labels head ws cs ≡ done ds → Gained cs ds (Gives Labelling.CharLabels ws)
unfolding char_labels character
each-gained head ws cs ds h = record { sized = each.sized; has = has }
  where
    counted : (eqb (length ws) (length cs) ≡ true) × (label_each cs ws ≡ done ds)
    counted = pick-when (eqb (length ws) (length cs)) Refusal.Count head (label_each cs ws) ds h

    each : Each cs ws ds
    each = each-labelled cs ws ds (eqb-true (length ws) (length cs) counted.0) counted.1

    has : (g : Item) → 1 ≤ whose g → whose g ≤ length cs → Has ds g ↔ (Has cs g ⊎ Gives Labelling.CharLabels ws g)
    has (its_label k n) l u = let next : suc (k - 1) ≡ k = omega arith in rw next at (each.label (k - 1) (omega arith) n)
    has (its_states k s) l u =
        (λ x. inl (sym (each.states (k - 1)) ∙ x), λ x. ⊎_elim (λ y. each.states (k - 1) ∙ y) (λ y. absurd (no-states ws k s y)) x)

-- One of these commands gives it.
abbrev pub SomeGives : List LabelCommand → Item → Type 0
SomeGives commands g = (c : LabelCommand) × Memᴰ c commands × Gives c.what c.words g

module _ (count : ℕ) where
  command-gained : (l : Labelling) (c : LabelCommand) (cs ds : List Labelled) → c.what ≡ l → label_command count l c cs ≡ done ds → Gained cs ds (Gives l c.words)
  unfolding label_command
  command-gained Labelling.CharLabels c cs ds is h = each-gained c.head c.words cs ds h
  command-gained Labelling.StateLabels c cs ds is h = gained-map same (rw is at (entries-gained count c (λ e. let z : ◌≡◌ {A = ℕ} 0 1 = cc in omega arith) cs ds h))
    where
      same : (g : Item) → EntriesGive Labelling.StateLabels c.words g ↔ Gives Labelling.StateLabels c.words g
      same (its_label k n) = (λ x. x.2, λ x. absurd x)
      same (its_states k s) = (λ x. x, λ x. x)
  command-gained Labelling.CharStateLabels c cs ds is h = gained-map same (rw is at (entries-gained count c (λ e. let z : ◌≡◌ {A = ℕ} 0 1 = cc in omega arith) cs ds h))
    where
      same : (g : Item) → EntriesGive Labelling.CharStateLabels c.words g ↔ Gives Labelling.CharStateLabels c.words g
      same (its_label k n) = (λ x. x, λ x. x)
      same (its_states k s) = (λ x. x, λ x. x)

  commands-gained : (commands : List LabelCommand) (cs ds : List Labelled) → fold (λ cs c. label_command count c.what c cs) cs commands ≡ done ds
      → Gained cs ds (SomeGives commands)
  unfolding fold
  commands-gained [] cs ds h = rw (← done_inj h) (gained-none (λ g x. Memᴰ.not-nil x.1))
  commands-gained (c ∷ r) cs ds h =
      let one = then-done (label_command count c.what c cs) _ ds h in
      gained-map same (gained-then (command-gained c.what c cs one.0 refl one.1) (commands-gained r one.0 ds one.2))
    where
      same : (g : Item) → (Gives c.what c.words g ⊎ SomeGives r g) ↔ SomeGives (c ∷ r) g
      same g = (λ x. ⊎_elim (λ y. (c, Memᴰ.head refl, y)) (λ y. (y.0, Memᴰ.tail y.1, y.2)) x, λ x. come x)
        where
          come : SomeGives (c ∷ r) g → Gives c.what c.words g ⊎ SomeGives r g
          come x =
              ⊎_elim (λ e. inl (subst (λ (d : LabelCommand). Gives d.what d.words g) e x.2)) (λ e. inr (x.0, e, x.2)) (Memᴰ.cases_cons x.1)

  -- At first no character has a label.
  pub labels-applied : (size : ℕ) (commands : List LabelCommand) (ls : List Labelled) → apply_labels count size commands ≡ done ls
      → (length ls ≡ size) × ((g : Item) → 1 ≤ whose g → whose g ≤ size → Has ls g ↔ SomeGives commands g)
  unfolding apply_labels character unlabelled
  labels-applied size commands ls h =
      (p.sized ∙ length-replicate size unlabelled, λ g l u. (λ x. ⊎_elim (λ y. unlabelled-has g l u y) (λ y. y) ((p.has g l (rw length-replicate u)).0 x), λ x. (p.has g l (rw length-replicate u)).1 (inr x)))
    where
      p : Gained (replicate size unlabelled) ls (SomeGives commands)
      p = commands-gained commands (replicate size unlabelled) ls h

      unlabelled-has : {X : Type 0} (g : Item) → 1 ≤ whose g → whose g ≤ size → Has (replicate size unlabelled) g → X
      unlabelled-has (its_label k n) l u y = none-some n (ap (λ x. x.label) (sym (get_or-replicate size (k - 1) unlabelled unlabelled (omega arith))) ∙ y)
      unlabelled-has (its_states k s) l u y = none-some s (ap (λ x. x.states) (sym (get_or-replicate size (k - 1) unlabelled unlabelled (omega arith))) ∙ y)
