-- A state holds the names that a TAXLABELS command before it declared: no command drops them before MATRIX is read. Assumes nothing.
use Prim.Native.Nat.{ℕ, zero, suc}
use Rattle.block.proofs.ChunkSound.{none-some}
use Rattle.block.proofs.OutcomeLaws.{then-done, pick-else, pick-when, pick-either, refused-done, done_inj, fold-history}
use Rattle.block.specs.Blocks.{Data, Phase, outside, in_taxa, in_data, in_assumptions, in_trees, State, at_start, in_phase, begin_assumptions, no_data, begin_block, begin_words, taxa_step, matrix, labelling, labelled_by, with_dimensions, with_format, with_taxa, with_matrix, label_step, data_command, data_step, options, characters_in, assumption_step, matrix_typed, taxa_end, data_end, end_block, inner_step, ends, block_step, is_outside, step}
use Rattle.block.specs.Commands.{Command, command, empty, unended, words}
use Rattle.block.specs.Dimensions.{dimensions}
use Rattle.block.specs.Format.{format}
use Rattle.block.specs.Names.{unique_names}
use Rattle.block.specs.Outcome.{done, refused, then, fold}
use Rattle.block.specs.Reading.{Reading}
use Rattle.block.specs.TaxonOrder.{is_declaring, Declares}
use Rattle.block.specs.Typeset.{Types, typeset}
use Rattle.block.specs.declared.kinds.Labelling.{Labelling}
use Rattle.block.specs.declared.model.CharacterOrdering.{CharacterOrdering}
use Rattle.lexer.proofs.Basics.{and_right, or-both, or_left, or_right, by-test, alike_both}
use Rattle.lexer.specs.Base.{pick, is_empty, given, bytes, alike, lower}
use Rattle.lexer.specs.Words.{Numbered, is, is_word}
use Rattle.lexer.specs.declared.refusal.Refusal.{Refusal}
use lib.Dec.{eqb}
use lib.ListN.{length}
use mathlib.Core.Bool.{Bool, true, false, ◌&&◌, ◌||◌, not, true≢false}
use mathlib.Core.List.{List, [], ◌∷◌, ◌++◌, nil≢cons, head-eq_of_cons-eq, tail-eq_of_cons-eq}
use mathlib.Core.Logic.{◌⊎◌, inl, inr, ⊎_elim, ⊎_map}
use mathlib.Core.Option.{Option, none, some}
use mathlib.Core.Path.{◌≡◌, refl, sym, ap, ◌∙◌}

-- A word is at most one keyword.
pub other_word : {X : Type 0} (k l : List ℕ) (h : Numbered) → alike k l ≡ false → is k h ≡ true → is l h ≡ true → X
unfolding is
other_word k l h e p q =
    let w = is_word h.token.kind in
    absurd (true≢false (sym (alike_both k l h.token.text (and_right w (alike k h.token.text) p) (and_right w (alike l h.token.text) q)) ∙ e))

-- Outside of a block the names are those of the TAXA block, unless the matrix is read already.
abbrev Left : State → List (List ℕ) → Type 0
Left s ns = (s.taxa ≡ some ns) ⊎ (given s.matrix ≡ true)

abbrev Holding : State → List (List ℕ) → Phase → Type 0
Holding s ns outside = Left s ns
Holding s ns (in_taxa b count names) = names ≡ some ns
Holding s ns (in_data b d) = d.taxa ≡ some ns
Holding s ns (in_assumptions b default set) = Left s ns
Holding s ns (in_trees b) = Left s ns

abbrev pub Holds : State → List (List ℕ) → Type 0
Holds s ns = Holding s ns s.phase

module _ (s : State) (h : Numbered) (raw : List Numbered) (ns : List (List ℕ)) where
  -- BEGIN
  unmatrixed : {X : Type 0} → given s.matrix ≡ false → Left s ns → (s.taxa ≡ some ns → X) → X
  unmatrixed e (inl t) f = f t
  unmatrixed e (inr m) f = absurd (true≢false (sym m ∙ e))

  opened : (p : Phase) (t : State) → Holding s ns p → done (in_phase p s) ≡ done t → Holds t ns
  unfolding in_phase
  opened outside t i e = rw (← done_inj e) i
  opened (in_taxa b count names) t i e = rw (← done_inj e) i
  opened (in_data b d) t i e = rw (← done_inj e) i
  opened (in_assumptions b default set) t i e = rw (← done_inj e) i
  opened (in_trees b) t i e = rw (← done_inj e) i

  assumptions-hold : (b : ℕ) (seen : Bool) (x : Option Reading) (t : State) → Left s ns → begin_assumptions s b seen x ≡ done t → Holds t ns
  unfolding begin_assumptions
  assumptions-hold b true x t k e = refused-done Refusal.Block b t e
  assumptions-hold b false none t k e = refused-done Refusal.Block b t e
  assumptions-hold b false (some x) t k e = opened (in_assumptions b none none) t k e

  begin-holds : (b : Numbered) (t : State) → Left s ns → begin_block s b ≡ done t → Holds t ns
  unfolding begin_block given no_data
  begin-holds b t k e =
      let i = b.index in
      let misplaced : refused Refusal.Block i ≡ done t → Holds t ns = refused-done Refusal.Block i t in
      pick-either (is (bytes "TAXA") b) _ _ t taxa
      (pick-either (is (bytes "DATA") b || is (bytes "CHARACTERS") b) _ _ t block
      (pick-either (is (bytes "ASSUMPTIONS") b) _ _ t (assumptions-hold i s.assumptions s.matrix t k)
      (pick-either (is (bytes "TREES") b) _ _ t (opened (in_trees i) t k)
      misplaced))) e
    where
      taxa : pick (given s.taxa || given s.matrix) (refused Refusal.Block b.index) (done (in_phase (in_taxa b.index 0 none) s)) ≡ done t → Holds t ns
      taxa p =
          let q = pick-else (given s.taxa || given s.matrix) Refusal.Block b.index _ t p in
          let free = or_left (given s.taxa) (given s.matrix) q.0 in
          unmatrixed (or_right (given s.taxa) (given s.matrix) q.0) k (λ x. absurd (true≢false (ap given (sym x) ∙ free)))

      block : pick (given s.matrix) (refused Refusal.Block b.index) (done (in_phase (in_data b.index (no_data s.taxa)) s)) ≡ done t → Holds t ns
      block p =
          let q = pick-else (given s.matrix) Refusal.Block b.index _ t p in
          unmatrixed q.0 k (λ x. opened (in_data b.index (no_data s.taxa)) t x q.1)

  words-hold : (ws : List Numbered) (t : State) → Left s ns → begin_words s h ws ≡ done t → Holds t ns
  unfolding begin_words
  words-hold [] t k e = refused-done Refusal.NotBegin h.index t e
  words-hold (b ∷ []) t k e = begin-holds b t k (pick-when (is (bytes "BEGIN") h) Refusal.NotBegin h.index (begin_block s b) t e).1
  words-hold (b ∷ c ∷ r) t k e = refused-done Refusal.NotBegin h.index t e

  -- DATA
  data-holds : (d : Data) (x : Data) → d.taxa ≡ some ns → data_command d h raw ≡ done x → x.taxa ≡ some ns
  unfolding data_command label_step given with_dimensions with_format with_matrix
  data-holds d x k e =
      let repeated : refused Refusal.Command h.index ≡ done x → x.taxa ≡ some ns = refused-done Refusal.Command h.index x in
      pick-either (is (bytes "DIMENSIONS") h) _ _ x (pick-either (given d.dimensions) _ _ x repeated (kept (dimensions (words raw)) (with_dimensions d) (λ y. refl)))
      (pick-either (is (bytes "FORMAT") h) _ _ x (pick-either (given d.format) _ _ x repeated (kept (format h.index (words raw)) (with_format d) (λ y. refl)))
      (pick-either (is (bytes "TAXLABELS") h) _ _ x named
      (pick-either (is (bytes "MATRIX") h) _ _ x (kept (matrix d h raw) (with_matrix d) (λ y. refl))
      (labels (labelling h))))) e
    where
      kept : {A : Type 0} (o : _) (f : A → Data) → ((y : A) → (f y).taxa ≡ d.taxa) → then o (λ y. done (f y)) ≡ done x → x.taxa ≡ some ns
      kept o f same p = let y = then-done o (λ y. done (f y)) x p in rw (← done_inj y.2) (same y.0 ∙ k)

      named : pick (given d.taxa) (refused Refusal.Command h.index) (then (unique_names (words raw)) (λ y. done (with_taxa d y))) ≡ done x → x.taxa ≡ some ns
      named p =
          let q = pick-else (given d.taxa) Refusal.Command h.index _ x p in
          absurd (true≢false (ap given (sym k) ∙ q.0))

      labels : (l : Option Labelling) → label_step d h (words raw) l ≡ done x → x.taxa ≡ some ns
      labels none p = refused-done Refusal.Command h.index x p
      labels (some l) p = rw (← done_inj (pick-else (labelled_by l d.labels) Refusal.Command h.index _ x p).1) k

  assumption-holds : (ws : List Numbered) (b : ℕ) (default : Option CharacterOrdering) (set : Option Types) (q : Phase) → Left s ns
      → assumption_step s h ws b default set ≡ done q → Holding s ns q
  unfolding assumption_step
  assumption-holds ws b default set q k e =
      pick-either (is (bytes "OPTIONS") h && not (given default)) _ _ q
      (λ p. let o = then-done (options h ws) (λ o. done (in_assumptions b (some o) set)) q p in rw (← done_inj o.2) k)
      (pick-either (is (bytes "TYPESET") h && not (given set)) _ _ q
      (λ p. let o = then-done (typeset (record { characters = characters_in s.matrix; head = h.index }) ws) (λ ts. done (in_assumptions b default (some ts))) q p in rw (← done_inj o.2) k)
      (refused-done Refusal.Command h.index q)) e

  -- END, and the commands inside a block
  typed-given : (default : Option CharacterOrdering) (set : Option Types) (x : Option Reading) → given (matrix_typed default set x) ≡ given x
  unfolding matrix_typed given
  typed-given default set none = refl
  typed-given default set (some r) = refl

  end-holds : (p : Phase) (t : State) → Holding s ns p → end_block s p ≡ done t → is_outside p ≡ false → Holds t ns
  unfolding end_block taxa_end data_end in_phase is_outside given
  end-holds outside t k e o = absurd (true≢false o)
  end-holds (in_taxa b count none) t k e o = none-some ns k
  end-holds (in_taxa b count (some names)) t k e o = rw (← done_inj (pick-when (eqb (length names) count) Refusal.Count b _ t e).1) (inl k)
  end-holds (in_data b d) t k e o = go d.matrix e
    where
      go : (m : Option Reading) → data_end s b m ≡ done t → Holds t ns
      go none p = refused-done Refusal.Absent b t p
      go (some r) p = rw (← done_inj p) (inr refl)
  end-holds (in_assumptions b default set) t k e o = rw (← done_inj e) (⊎_map (λ n. n) (λ m. typed-given default set s.matrix ∙ m) k)
  end-holds (in_trees b) t k e o = rw (← done_inj e) k

  inner-holds : (p q : Phase) → Holding s ns p → inner_step s h raw p ≡ done q → is_outside p ≡ false → Holding s ns q
  unfolding inner_step data_step taxa_step is_outside
  inner-holds outside q k e o = absurd (true≢false o)
  inner-holds (in_taxa b count none) q k e o = none-some ns k
  inner-holds (in_taxa b count (some names)) q k e o = refused-done Refusal.Command h.index q e
  inner-holds (in_data b d) q k e o =
      let x = then-done (data_command d h raw) (λ x. done (in_data b x)) q (pick-else (given d.matrix) Refusal.Command h.index _ q e).1 in
      rw (← done_inj x.2) (data-holds d x.0 k x.1)
  inner-holds (in_assumptions b default set) q k e o = assumption-holds (words raw) b default set q k e
  inner-holds (in_trees b) q k e o = rw (← done_inj e) k

  block-holds : (t : State) → is_outside s.phase ≡ false → Holds s ns → block_step s h raw ≡ done t → Holds t ns
  unfolding block_step
  block-holds t o k e = pick-either (ends h) _ _ t over inner e
    where
      over : pick (is_empty (words raw)) (end_block s s.phase) (refused Refusal.WordsAfterEnd h.index) ≡ done t → Holds t ns
      over p = end-holds s.phase t k (pick-when (is_empty (words raw)) Refusal.WordsAfterEnd h.index (end_block s s.phase) t p).1 o

      inner : then (inner_step s h raw s.phase) (λ q. done (in_phase q s)) ≡ done t → Holds t ns
      inner p =
          let q = then-done (inner_step s h raw s.phase) (λ q. done (in_phase q s)) t p in
          opened q.0 t (inner-holds s.phase q.0 k q.1 o) q.2

  command-holds : (t : State) → Holds s ns → step s (command h raw) ≡ done t → Holds t ns
  unfolding step is_outside pick
  command-holds t k e =
      by-test (is_outside s.phase) (λ o. words-hold (words raw) t (left s.phase o k) (rw o at e)) (λ o. block-holds t o k (rw o at e))
    where
      left : (p : Phase) → is_outside p ≡ true → Holding s ns p → Left s ns
      left outside o k = k
      left (in_taxa b count names) o k = absurd (true≢false (sym o))
      left (in_data b d) o k = absurd (true≢false (sym o))
      left (in_assumptions b default set) o k = absurd (true≢false (sym o))
      left (in_trees b) o k = absurd (true≢false (sym o))

  -- TAXLABELS in a block that takes it
  module _ (word : is (bytes "TAXLABELS") h ≡ true) (named : unique_names (words raw) ≡ done ns) where
    not_this : {X : Type 0} (k : List ℕ) → alike k (bytes "TAXLABELS") ≡ false → is k h ≡ true → X
    not_this k e p = other_word k (bytes "TAXLABELS") h e p word

    taken : {A : Type 0} (f : List (List ℕ) → A) (a : A) → then (unique_names (words raw)) (λ names. done (f names)) ≡ done a → f ns ≡ a
    taken f a p =
        let y = then-done (unique_names (words raw)) (λ names. done (f names)) a p in
        let same : y.0 ≡ ns = done_inj (sym y.1 ∙ named) in
        ap f (sym same) ∙ done_inj y.2

    taxa-taken : (b count : ℕ) (names : Option (List (List ℕ))) (q : Phase) → taxa_step h (words raw) b count names ≡ done q → Holding s ns q
    unfolding taxa_step alike bytes lower pick
    taxa-taken b count (some names) q e = refused-done Refusal.Command h.index q e
    taxa-taken b zero none q e =
        not_this (bytes "DIMENSIONS") refl (pick-when (is (bytes "DIMENSIONS") h) Refusal.Command h.index _ q e).0
    taxa-taken b (suc n) none q e =
        rw (← taken (λ names. in_taxa b (suc n) (some names)) q (pick-when (is (bytes "TAXLABELS") h) Refusal.Command h.index _ q e).1) refl

    data-taken : (d x : Data) → data_command d h raw ≡ done x → x.taxa ≡ some ns
    unfolding data_command alike bytes lower pick with_taxa
    data-taken d x e =
        by-test (is (bytes "DIMENSIONS") h) (not_this (bytes "DIMENSIONS") refl)
        (λ p. by-test (is (bytes "FORMAT") h) (not_this (bytes "FORMAT") refl)
        (λ q. rw (← taken (with_taxa d) x (pick-else (given d.taxa) Refusal.Command h.index _ x (rw (p, q, word) at e)).1) refl))

    inner-taken : (p q : Phase) → is_declaring p ≡ true → inner_step s h raw p ≡ done q → Holding s ns q
    unfolding is_declaring inner_step data_step
    inner-taken outside q o e = absurd (true≢false (sym o))
    inner-taken (in_taxa b count names) q o e = taxa-taken b count names q e
    inner-taken (in_data b d) q o e =
        let x = then-done (data_command d h raw) (λ x. done (in_data b x)) q (pick-else (given d.matrix) Refusal.Command h.index _ q e).1 in
        rw (← done_inj x.2) (data-taken d x.0 x.1)
    inner-taken (in_assumptions b default set) q o e = absurd (true≢false (sym o))
    inner-taken (in_trees b) q o e = absurd (true≢false (sym o))

    in_block : (p : Phase) → is_declaring p ≡ true → is_outside p ≡ false
    unfolding is_declaring is_outside
    in_block outside o = sym o
    in_block (in_taxa b count names) o = refl
    in_block (in_data b d) o = refl
    in_block (in_assumptions b default set) o = refl
    in_block (in_trees b) o = refl

    goes_on : ends h ≡ false
    unfolding ends alike bytes lower pick
    goes_on =
        by-test (is (bytes "END") h) (not_this (bytes "END") refl)
        (λ p. by-test (is (bytes "ENDBLOCK") h) (not_this (bytes "ENDBLOCK") refl) (λ q. or-both p q))

    declared-holds : (t : State) → is_declaring s.phase ≡ true → step s (command h raw) ≡ done t → Holds t ns
    unfolding step block_step pick
    declared-holds t o e =
        let q = then-done (inner_step s h raw s.phase) (λ q. done (in_phase q s)) t (rw (in_block s.phase o, goes_on) at e) in
        opened q.0 t (inner-taken s.phase q.0 o q.1) q.2

-- A command among these and one more is among these, or is that one.
module _ {A : Type 0} where
  pub last-or-before : (l p q : List A) (c x : A) → l ++ (c ∷ []) ≡ p ++ (x ∷ q) → ((l ≡ p) × (c ≡ x)) ⊎ ((r : List A) × (l ≡ p ++ (x ∷ r)))
  last-or-before [] [] q c x e = inl (refl, head-eq_of_cons-eq e)
  last-or-before [] (a ∷ []) q c x e = absurd (nil≢cons (tail-eq_of_cons-eq e))
  last-or-before [] (a ∷ b ∷ p) q c x e = absurd (nil≢cons (tail-eq_of_cons-eq e))
  last-or-before (b ∷ l) [] q c x e = inr (l, ap (λ y. y ∷ l) (head-eq_of_cons-eq e))
  last-or-before (b ∷ l) (a ∷ p) q c x e =
      let first = head-eq_of_cons-eq e in
      ⊎_elim
      (λ k. inl (ap (λ y. b ∷ y) k.0 ∙ ap (λ y. y ∷ p) first, k.1))
      (λ k. inr (k.0, ap (λ y. b ∷ y) k.1 ∙ ap (λ y. y ∷ (p ++ (x ∷ k.0))) first))
      (last-or-before l p q c x (tail-eq_of_cons-eq e))

pub nothing-declared : (p q : List Command) (c : Command) → [] ≡ p ++ (c ∷ q) → ⊥
nothing-declared [] q c e = nil≢cons e
nothing-declared (a ∷ p) q c e = nil≢cons e

-- What the commands so far declare is held.
abbrev Held : List Command → State → Type 0
Held cs s = (ns : List (List ℕ)) → Declares cs ns → Holds s ns

step-held : (before : List Command) (s : State) (c : Command) (t : State) → fold step at_start before ≡ done s → Held before s → step s c ≡ done t → Held (before ++ (c ∷ [])) t
unfolding step
step-held before s (empty i) t reached k e ns d = refused-done Refusal.EmptyCommand i t e
step-held before s (unended i) t reached k e ns d = refused-done Refusal.UnendedCommand i t e
step-held before s (command h raw) t reached k e ns d =
    ⊎_elim this earlier (last-or-before before d.before d.after (command h raw) (command d.head d.raw) d.here)
  where
    this : (before ≡ d.before) × (command h raw ≡ command d.head d.raw) → Holds t ns
    this p =
        let head : h ≡ d.head = let z = p.1 in cc in
        let words : raw ≡ d.raw = let z = p.1 in cc in
        let same : s ≡ d.state = done_inj (sym reached ∙ ap (fold step at_start) p.0 ∙ d.reached) in
        declared-holds s h raw ns (rw head d.word) (rw words d.named) t (rw same d.inside) e

    earlier : (r : List Command) × (before ≡ d.before ++ (command d.head d.raw ∷ r)) → Holds t ns
    earlier p =
        command-holds s h raw ns t
        (k ns (record { before = d.before; head = d.head; raw = d.raw; after = p.0; here = p.1; word = d.word; state = d.state; reached = d.reached; inside = d.inside; named = d.named }))
        e

pub declares-holds : (before : List Command) (s : State) → fold step at_start before ≡ done s → (ns : List (List ℕ)) → Declares before ns → Holds s ns
declares-holds before s reached =
    fold-history Held step at_start step-held before s (λ ns d. absurd (nothing-declared d.before d.after (command d.head d.raw) d.here)) reached
