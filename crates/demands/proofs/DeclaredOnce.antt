-- What a data block holds of dimensions and format is what its DIMENSIONS and its FORMAT command declare. Assumes nothing.
use Prim.Native.Nat.{ℕ}
use Rattle.block.proofs.BlockMoves.{Away, Move, elsewhere, typed, begins, left, labels, reads, declares, command-move}
use Rattle.block.proofs.ChunkSound.{none-some, some_inj}
use Rattle.block.proofs.DeclaredHeld.{last-or-before, nothing-declared}
use Rattle.block.proofs.LabelsGained.{not-given}
use Rattle.block.proofs.OutcomeLaws.{refused-done, done_inj, fold-history}
use Rattle.block.specs.Blocks.{Data, Phase, in_data, State, at_start, no_data, with_dimensions, with_format, with_matrix, matrix_typed, step}
use Rattle.block.specs.Commands.{Command, command, empty, unended, words}
use Rattle.block.specs.Dimensions as Definition
use Rattle.block.specs.Format.{Format, default_format, format}
use Rattle.block.specs.Outcome.{Outcome, done, fold}
use Rattle.block.specs.Reading.{Reading}
use Rattle.block.specs.Typeset.{Types}
use Rattle.block.specs.declared.dimension.Dimensions.{Dimensions}
use Rattle.block.specs.declared.model.CharacterOrdering.{CharacterOrdering}
use Rattle.demands.proofs.DataCommands as Done
use Rattle.demands.proofs.DataCommands.{ByPhase, to-outside, from-outside, Does, Within, data-within, no_other}
use Rattle.demands.specs.Right as Right
use Rattle.demands.specs.Right.{StandsIn, Declared, Dimensioned, Formatted}
use Rattle.lexer.proofs.Basics.{not-both}
use Rattle.lexer.specs.Base.{pick, bytes, alike, lower, given}
use Rattle.lexer.specs.Words.{Numbered, is}
use Rattle.lexer.specs.declared.refusal.Refusal.{Refusal}
use mathlib.Core.Bool.{true, false}
use mathlib.Core.List.{List, [], ◌∷◌, ◌++◌, append_assoc}
use mathlib.Core.Logic.{◌⊎◌, inl, inr, ⊎_elim}
use mathlib.Core.Option.{Option, none, some, get_or}
use mathlib.Core.Path.{◌≡◌, refl, sym, ap, ◌∙◌}

-- A command of a block among these and one more is among these, or is that one.
module _ (cs : List Command) (s : State) (reached : fold step at_start cs ≡ done s) (h : Numbered) (raw : List Numbered) (b : ℕ) (k : List ℕ) where
  abbrev more : List Command
  more = cs ++ (command h raw ∷ [])

  stands-later : StandsIn cs b k → StandsIn more b k
  stands-later c =
      record {
        before = c.before;
        head = c.head;
        raw = c.raw;
        after = c.after ++ (command h raw ∷ []);
        here = ap (λ l. l ++ (command h raw ∷ [])) c.here ∙ append_assoc c.before (command c.head c.raw ∷ c.after) (command h raw ∷ []);
        word = c.word;
        state = c.state;
        reached = c.reached;
        block_data = c.block_data;
        inside = c.inside;
      }

  stands-last : is k h ≡ true → (d : Data) → s.phase ≡ in_data b d → StandsIn more b k
  stands-last w d at = record { before = cs; head = h; raw = raw; after = []; here = refl; word = w; state = s; reached = reached; block_data = d; inside = at }

  abbrev Earlier : StandsIn more b k → Type 0
  Earlier c = (e : StandsIn cs b k) × (e.head ≡ c.head) × (e.raw ≡ c.raw)

  abbrev Last : StandsIn more b k → Type 0
  Last c = (h ≡ c.head) × (raw ≡ c.raw) × (s.phase ≡ in_data b c.block_data)

  stands-split : (c : StandsIn more b k) → Earlier c ⊎ Last c
  stands-split c = ⊎_elim this earlier (last-or-before cs c.before c.after (command h raw) (command c.head c.raw) c.here)
    where
      this : (cs ≡ c.before) × (command h raw ≡ command c.head c.raw) → Earlier c ⊎ Last c
      this p =
          let head : h ≡ c.head = let z = p.1 in cc in
          let rest : raw ≡ c.raw = let z = p.1 in cc in
          let same : s ≡ c.state = done_inj (sym reached ∙ ap (fold step at_start) p.0 ∙ c.reached) in
          inr (head, rest, ap (λ x. x.phase) same ∙ c.inside)

      earlier : (r : List Command) × (cs ≡ c.before ++ (command c.head c.raw ∷ r)) → Earlier c ⊎ Last c
      earlier p =
          inl (record { before = c.before; head = c.head; raw = c.raw; after = p.0; here = p.1; word = c.word; state = c.state; reached = c.reached; block_data = c.block_data; inside = c.inside }, refl, refl)

-- A command of the block leaves a part of its data as it is, or is the one that sets it, once.
data Changes {X : Type 0} (k : List ℕ) (value : Numbered → List Numbered → Outcome X) (part : Data → Option X) (d : Data) (h : Numbered) (raw : List Numbered) (e : Data) : Type 0 where
  kept : is k h ≡ false → part e ≡ part d → Changes k value part d h raw e
  sets : (x : X) → is k h ≡ true → given (part d) ≡ false → value h raw ≡ done x → part e ≡ some x → Changes k value part d h raw e

away-data : (p : Phase) (b : ℕ) (d : Data) → Away p → p ≡ in_data b d → ⊥
away-data p b d a e = rw e at a

typed-given : (default : Option CharacterOrdering) (set : Option Types) (m : Option Reading) → given (matrix_typed default set m) ≡ given m
unfolding matrix_typed given
typed-given default set none = refl
typed-given default set (some r) = refl

module _ {X : Type 0} (k : List ℕ) (value : Numbered → List Numbered → Outcome X) (part : Data → Option X) (fresh : (taxa : Option (List (List ℕ))) → part (no_data taxa) ≡ none)
    (changes : (d : Data) (h : Numbered) (raw : List Numbered) (e : Data) → Does d h raw e → Changes k value part d h raw e) where
  -- What is set is set by such a command, and each such command sets it.
  record Holds (cs : List Command) (b : ℕ) (o : Option X) : Type 0 where
    comes : (x : X) → o ≡ some x → StandsIn cs b k
    each : (c : StandsIn cs b k) → (x : X) × (o ≡ some x) × (value c.head c.raw ≡ done x)

  -- Outside of a data block there is no such command before the matrix is read.
  abbrev Outside : List Command → Option Reading → Type 0
  Outside cs m = given m ≡ false → (b : ℕ) → ¬ StandsIn cs b k

  abbrev Held : List Command → State → Type 0
  Held cs s = ByPhase (Outside cs s.matrix) (λ b d. Holds cs b (part d)) s.phase

  module _ (cs : List Command) (s : State) (reached : fold step at_start cs ≡ done s) (h : Numbered) (raw : List Numbered) where
    abbrev next : List Command
    next = cs ++ (command h raw ∷ [])

    outside-later : Away s.phase → Outside cs s.matrix → Outside next s.matrix
    outside-later a o free b c =
        ⊎_elim (λ x. o free b x.0) (λ x. away-data s.phase b c.block_data a x.2) (stands-split cs s reached h raw b k c)

    -- In a data block.
    module _ (b : ℕ) (d : Data) (inside : s.phase ≡ in_data b d) (held : Holds cs b (part d)) where
      changed : (e : Data) → Changes k value part d h raw e → Holds next b (part e)
      changed e (kept n same) =
          record {
            comes = λ x p. stands-later cs s reached h raw b k (held.comes x (sym same ∙ p));
            each = λ c. ⊎_elim (earlier c) (λ x. not-both n (rw x.0 c.word)) (stands-split cs s reached h raw b k c);
          }
        where
          earlier : (c : StandsIn next b k) → Earlier cs s reached h raw b k c → (x : X) × (part e ≡ some x) × (value c.head c.raw ≡ done x)
          earlier c (f, head, rest) = let y = held.each f in (y.0, same ∙ y.1, rw (← head, ← rest) y.2)
      changed e (sets x w free v now) =
          record {
            comes = λ y p. stands-last cs s reached h raw b k w d inside;
            each = λ c. ⊎_elim (λ y. let z = held.each y.0 in not-given (part d) z.0 free z.1) (λ y. (x, now, rw (← y.0, ← y.1) v)) (stands-split cs s reached h raw b k c);
          }

      within_held : (t : State) → Within b d h raw t → Held next t
      within_held t (Done.over r e at out matrix) = rw out (λ free. not-given t.matrix r free matrix)
      within_held t (Done.on e free does at) = rw at (changed e (changes d h raw e does))

    step-held : (t : State) → Held cs s → step s (command h raw) ≡ done t → Held next t
    step-held t i e = moved (command-move s h raw t e)
      where
        stays : (b : ℕ) (d : Data) → s.phase ≡ in_data b d → Held next t
        stays b d at = within_held b d at (rw at at i) t (data-within s b d at h raw t e)

        away : Away s.phase → Outside cs s.matrix
        away a = to-outside (Outside cs s.matrix) (λ b d. Holds cs b (part d)) s.phase a i

        moved : Move s h raw t → Held next t
        moved (elsewhere a out m) = from-outside (Outside next t.matrix) (λ b d. Holds next b (part d)) t.phase out (rw m (outside-later a (away a)))
        moved (typed default set a out m) =
            from-outside (Outside next t.matrix) (λ b d. Holds next b (part d)) t.phase out
            (λ free. outside-later a (away a) (sym (typed-given default set s.matrix) ∙ ap given (sym m) ∙ free))
        moved (begins b a free at) = rw at (begun (away a))
          where
            begun : Outside cs s.matrix → Holds next b (part (no_data s.taxa))
            begun o =
                record {
                  comes = λ x p. none-some x (sym (fresh s.taxa) ∙ p);
                  each = λ c. absurd (outside-later a o free b c);
                }
        moved (left b d r at m n out q) = stays b d at
        moved (labels b d x l at m n w q g f) = stays b d at
        moved (reads b d x r at m n q g f) = stays b d at
        moved (declares b d x at n q g f) = stays b d at

  keeps : (cs : List Command) (s : State) (c : Command) (t : State) → fold step at_start cs ≡ done s → Held cs s → step s c ≡ done t → Held (cs ++ (c ∷ [])) t
  unfolding step
  keeps cs s (empty i) t reached p e = refused-done Refusal.EmptyCommand i t e
  keeps cs s (unended i) t reached p e = refused-done Refusal.UnendedCommand i t e
  keeps cs s (command h raw) t reached p e = step-held cs s reached h raw t p e

  -- Of a data block that is open behind these commands.
  module _ (cs : List Command) (s : State) (reached : fold step at_start cs ≡ done s) (b : ℕ) (d : Data) (inside : s.phase ≡ in_data b d) where
    holds : Holds cs b (part d)
    unfolding at_start
    holds =
        rw inside at (fold-history Held step at_start keeps cs s (λ free i c. nothing-declared c.before c.after (command c.head c.raw) c.here) reached)

    declared : (x : X) → part d ≡ some x → Declared cs b k value x
    declared x e =
        record {
          stands = holds.comes x e;
          each = λ c. let y = holds.each c in y.2 ∙ ap done (some_inj (sym y.1 ∙ e));
        }

    undeclared : part d ≡ none → ¬ StandsIn cs b k
    undeclared e c = let y = holds.each c in none-some y.0 (sym e ∙ y.1)

-- DIMENSIONS and FORMAT
sizes-change : (d : Data) (h : Numbered) (raw : List Numbered) (e : Data) → Does d h raw e → Changes (bytes "DIMENSIONS") (λ h raw. Definition.dimensions (words raw)) (λ d. d.dimensions) d h raw e
unfolding with_dimensions with_format with_matrix alike bytes lower pick
sizes-change d h raw e (Done.sizes x w free v same) = sets x w free v (ap (λ y. y.dimensions) (sym same))
sizes-change d h raw e (Done.formats x w free v same) = kept (no_other (bytes "FORMAT") (bytes "DIMENSIONS") h refl w) (ap (λ y. y.dimensions) (sym same))
sizes-change d h raw e (Done.reads x w v same) = kept (no_other (bytes "MATRIX") (bytes "DIMENSIONS") h refl w) (ap (λ y. y.dimensions) (sym same))
sizes-change d h raw e (Done.other n f m same like) = kept n same

formats-change : (d : Data) (h : Numbered) (raw : List Numbered) (e : Data) → Does d h raw e → Changes (bytes "FORMAT") (λ h raw. format h.index (words raw)) (λ d. d.format) d h raw e
unfolding with_dimensions with_format with_matrix alike bytes lower pick
formats-change d h raw e (Done.sizes x w free v same) = kept (no_other (bytes "DIMENSIONS") (bytes "FORMAT") h refl w) (ap (λ y. y.format) (sym same))
formats-change d h raw e (Done.formats x w free v same) = sets x w free v (ap (λ y. y.format) (sym same))
formats-change d h raw e (Done.reads x w v same) = kept (no_other (bytes "MATRIX") (bytes "FORMAT") h refl w) (ap (λ y. y.format) (sym same))
formats-change d h raw e (Done.other n f m same like) = kept f like

module _ (cs : List Command) (s : State) (reached : fold step at_start cs ≡ done s) (b : ℕ) (d : Data) (inside : s.phase ≡ in_data b d) where
  pub dimensions-declared : (x : Dimensions) → d.dimensions ≡ some x → Dimensioned cs b x
  unfolding no_data
  dimensions-declared x e =
      declared (bytes "DIMENSIONS") (λ h raw. Definition.dimensions (words raw)) (λ d. d.dimensions) (λ taxa. refl) sizes-change cs s reached b d inside x e

  pub format-declared : Formatted cs b (get_or d.format default_format)
  format-declared = go d.format refl
    where
      go : (o : Option Format) → d.format ≡ o → Formatted cs b (get_or o default_format)
      go none e = Right.default (undeclared (bytes "FORMAT") (λ h raw. format h.index (words raw)) (λ d. d.format) (λ taxa. unfold no_data in refl) formats-change cs s reached b d inside e)
      go (some f) e = Right.given (declared (bytes "FORMAT") (λ h raw. format h.index (words raw)) (λ d. d.format) (λ taxa. unfold no_data in refl) formats-change cs s reached b d inside f e)
