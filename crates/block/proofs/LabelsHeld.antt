-- The label commands of a data block are kept, each kind once, and no other command is. Assumes nothing.
use Prim.Native.Nat.{ℕ}
use Rattle.block.proofs.BlockMoves.{keyword-once}
use Rattle.block.proofs.DeclaredHeld.{last-or-before}
use Rattle.block.proofs.OutcomeLaws.{done_inj}
use Rattle.block.specs.Blocks.{Data, in_data, State, at_start, same_labelling, labelled_by, step}
use Rattle.block.specs.Commands.{Command, command, words}
use Rattle.block.specs.LabelOrder.{keyword, IsLabelCommand}
use Rattle.block.specs.Labels.{LabelCommand}
use Rattle.block.specs.Outcome.{done, fold}
use Rattle.block.specs.declared.kinds.Labelling.{Labelling}
use Rattle.lexer.proofs.Basics.{not-both, or-first, or-second}
use Rattle.lexer.specs.Words.{Numbered, is}
use mathlib.Core.Bool.{true, false}
use mathlib.Core.List.Memᴰ
use mathlib.Core.List.{List, [], ◌∷◌, ◌++◌, append_assoc, Memᴰ}
use mathlib.Core.Logic.{◌⊎◌, inl, inr, ⊎_elim}
use mathlib.Core.Path.{◌≡◌, refl, sym, ap, ◌∙◌, subst}

-- These are the label commands among the commands, each kind once.
pub record Same (cs : List Command) (kept : List LabelCommand) : Type 0 where
  pub from : (c : LabelCommand) → Memᴰ c kept → IsLabelCommand cs c.what c.words
  pub held : (l : Labelling) (ws : List Numbered) → IsLabelCommand cs l ws → (c : LabelCommand) × Memᴰ c kept × (c.what ≡ l) × (c.words ≡ ws)
  pub once : (l : Labelling) (ws vs : List Numbered) (c : IsLabelCommand cs l ws) (d : IsLabelCommand cs l vs) → c.before ≡ d.before

label-later : (cs : List Command) (x : Command) (l : Labelling) (ws : List Numbered) → IsLabelCommand cs l ws → IsLabelCommand (cs ++ (x ∷ [])) l ws
label-later cs x l ws c =
    record {
      before = c.before;
      head = c.head;
      raw = c.raw;
      after = c.after ++ (x ∷ []);
      here = ap (λ r. r ++ (x ∷ [])) c.here ∙ append_assoc c.before (command c.head c.raw ∷ c.after) (x ∷ []);
      word = c.word;
      words = c.words;
      state = c.state;
      reached = c.reached;
      block = c.block;
      block_data = c.block_data;
      inside = c.inside;
    }

-- A kind that is kept is found by the test for it.
kept-kind : (kept : List LabelCommand) (c : LabelCommand) → Memᴰ c kept → labelled_by c.what kept ≡ true
unfolding labelled_by same_labelling
kept-kind [] c m = absurd (Memᴰ.not-nil m)
kept-kind (d ∷ r) c m =
    ⊎_elim (λ e. or-first (same_labelling c.what d.what) (labelled_by c.what r) (same c.what d.what (ap (λ x. x.what) e)))
    (λ e. or-second (same_labelling c.what d.what) (labelled_by c.what r) (kept-kind r c e)) (Memᴰ.cases_cons m)
  where
    itself : (l : Labelling) → same_labelling l l ≡ true
    itself Labelling.CharLabels = refl
    itself Labelling.StateLabels = refl
    itself Labelling.CharStateLabels = refl

    same : (l m : Labelling) → l ≡ m → same_labelling l m ≡ true
    same l m e = rw (← e) (itself l)

module _ (cs : List Command) (s : State) (reached : fold step at_start cs ≡ done s) (h : Numbered) (raw : List Numbered) where
  -- A label command among these and one more is among these, or is that one.
  pub record Last (l : Labelling) (ws : List Numbered) : Type 0 where
    pub word : is (keyword l) h ≡ true
    pub words : words raw ≡ ws
    pub block : ℕ
    pub block_data : Data
    pub inside : s.phase ≡ in_data block block_data

  abbrev Earlier : (l : Labelling) (ws : List Numbered) → List Command → Type 0
  Earlier l ws before = (d : IsLabelCommand cs l ws) × (d.before ≡ before)

  split : (l : Labelling) (ws : List Numbered) (c : IsLabelCommand (cs ++ (command h raw ∷ [])) l ws) → Earlier l ws c.before ⊎ ((cs ≡ c.before) × Last l ws)
  split l ws c = ⊎_elim this earlier (last-or-before cs c.before c.after (command h raw) (command c.head c.raw) c.here)
    where
      this : (cs ≡ c.before) × (command h raw ≡ command c.head c.raw) → Earlier l ws c.before ⊎ ((cs ≡ c.before) × Last l ws)
      this p =
          let head : h ≡ c.head = let z = p.1 in cc in
          let rest : raw ≡ c.raw = let z = p.1 in cc in
          let same : s ≡ c.state = done_inj (sym reached ∙ ap (fold step at_start) p.0 ∙ c.reached) in
          inr (p.0, record { word = rw head c.word; words = rw rest c.words; block = c.block; block_data = c.block_data; inside = rw same c.inside })

      earlier : (r : List Command) × (cs ≡ c.before ++ (command c.head c.raw ∷ r)) → Earlier l ws c.before ⊎ ((cs ≡ c.before) × Last l ws)
      earlier p =
          inl (record { before = c.before; head = c.head; raw = c.raw; after = p.0; here = p.1; word = c.word; words = c.words; state = c.state; reached = c.reached; block = c.block; block_data = c.block_data; inside = c.inside }, refl)

  -- A command that is no label command of a data block changes nothing.
  pub quiet : ((l : Labelling) (ws : List Numbered) → ¬ Last l ws) → (kept : List LabelCommand) → Same cs kept → Same (cs ++ (command h raw ∷ [])) kept
  quiet no_last kept p = record { from = λ c m. label-later cs (command h raw) c.what c.words (p.from c m); held = λ l ws c. p.held l ws (early l ws c).0; once = once }
    where
      early : (l : Labelling) (ws : List Numbered) (c : IsLabelCommand (cs ++ (command h raw ∷ [])) l ws) → Earlier l ws c.before
      early l ws c = ⊎_elim (λ x. x) (λ x. absurd (no_last l ws x.1)) (split l ws c)

      once : (l : Labelling) (ws vs : List Numbered) (c : IsLabelCommand (cs ++ (command h raw ∷ [])) l ws) (d : IsLabelCommand (cs ++ (command h raw ∷ [])) l vs) → c.before ≡ d.before
      once l ws vs c d =
          let x = early l ws c in
          let y = early l vs d in
          sym x.1 ∙ p.once l ws vs x.0 y.0 ∙ y.1

  -- A label command of a kind that was not there is kept.
  pub kept-one : (b : ℕ) (d : Data) (l : Labelling) (kept : List LabelCommand) → s.phase ≡ in_data b d → is (keyword l) h ≡ true → labelled_by l kept ≡ false → Same cs kept
      → Same (cs ++ (command h raw ∷ [])) (kept ++ (record { what = l; head = h.index; words = words raw } ∷ []))
  kept-one b d l kept inside word new p = record { from = from; held = held; once = once }
    where
      one : LabelCommand
      one = record { what = l; head = h.index; words = words raw }

      this : IsLabelCommand (cs ++ (command h raw ∷ [])) l (words raw)
      this = record { before = cs; head = h; raw = raw; after = []; here = refl; word = word; words = refl; state = s; reached = reached; block = b; block_data = d; inside = inside }

      from : (c : LabelCommand) → Memᴰ c (kept ++ (one ∷ [])) → IsLabelCommand (cs ++ (command h raw ∷ [])) c.what c.words
      from c m =
          ⊎_elim (λ x. label-later cs (command h raw) c.what c.words (p.from c x))
          (λ x. subst (λ (y : LabelCommand). IsLabelCommand (cs ++ (command h raw ∷ [])) y.what y.words) (sym (Memᴰ.eq_of_singleton x)) this) (Memᴰ.append_cases kept m)

      held : (m : Labelling) (ws : List Numbered) → IsLabelCommand (cs ++ (command h raw ∷ [])) m ws
          → (c : LabelCommand) × Memᴰ c (kept ++ (one ∷ [])) × (c.what ≡ m) × (c.words ≡ ws)
      held m ws c =
          ⊎_elim (λ x. let y = p.held m ws x.0 in (y.0, Memᴰ.append_left (one ∷ []) y.1, y.2, y.3))
          (λ x. (one, Memᴰ.append_right kept (Memᴰ.head refl), keyword-once l m h word x.1.word, x.1.words)) (split m ws c)

      twice : {X : Type 0} (m : Labelling) (ws : List Numbered) → IsLabelCommand cs m ws → is (keyword m) h ≡ true → X
      twice m ws c again =
          let y = p.held m ws c in
          let kind : y.0.what ≡ l = y.2 ∙ keyword-once m l h again word in
          not-both new (subst (λ (k : Labelling). labelled_by k kept ≡ true) kind (kept-kind kept y.0 y.1))

      once : (m : Labelling) (ws vs : List Numbered) (c : IsLabelCommand (cs ++ (command h raw ∷ [])) m ws) (e : IsLabelCommand (cs ++ (command h raw ∷ [])) m vs) → c.before ≡ e.before
      once m ws vs c e = go (split m ws c) (split m vs e)
        where
          go : Earlier m ws c.before ⊎ ((cs ≡ c.before) × Last m ws) → Earlier m vs e.before ⊎ ((cs ≡ e.before) × Last m vs) → c.before ≡ e.before
          go (inl x) (inl y) = sym x.1 ∙ p.once m ws vs x.0 y.0 ∙ y.1
          go (inl x) (inr y) = twice m ws x.0 y.1.word
          go (inr x) (inl y) = twice m vs y.0 x.1.word
          go (inr x) (inr y) = sym x.0 ∙ y.0
