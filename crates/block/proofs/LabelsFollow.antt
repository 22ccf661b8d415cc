-- Labels belong to their characters: a character of a reading has what the text's label commands give it. Assumes nothing.
use Prim.Native.Nat.{ℕ, suc, ◌-◌, ◌≤◌}
use Rattle.block.proofs.BlockMoves.{Away, NoLabels, Move, elsewhere, typed, begins, left, labels, reads, declares, command-move}
use Rattle.block.proofs.DeclaredHeld.{nothing-declared}
use Rattle.block.proofs.LabelsApplied.{Gives, SomeGives, labels-applied}
use Rattle.block.proofs.LabelsGained.{Item, its_label, its_states, whose, Has, not-given}
use Rattle.block.proofs.LabelsHeld.{Same, quiet, kept-one}
use Rattle.block.proofs.MatrixParts.{matrix-parts}
use Rattle.block.proofs.OutcomeLaws.{refused-done, Opt, fold-history}
use Rattle.block.proofs.ReadCommands.{read-finished}
use Rattle.block.specs.Blocks.{Data, Phase, outside, in_taxa, in_data, in_assumptions, in_trees, State, at_start, no_data, unordered, retyped, with_types, matrix, matrix_typed, step}
use Rattle.block.specs.Commands.{Command, command, empty, unended}
use Rattle.block.specs.LabelOrder.{Kth, IsLabelCommand, LabelGiven, StatesGiven, LabelledBy, LabelsFollow}
use Rattle.block.specs.Labels.{Labelled, unlabelled, LabelCommand, character, apply_labels}
use Rattle.block.specs.Outcome.{done, fold}
use Rattle.block.specs.Parse.{reading, read}
use Rattle.block.specs.Reading.{Character, Reading}
use Rattle.block.specs.TaxonOrder.{commands_of}
use Rattle.block.specs.Typeset.{Types}
use Rattle.block.specs.declared.kinds.Labelling.{Labelling}
use Rattle.block.specs.declared.model.CharacterOrdering.{CharacterOrdering}
use Rattle.lexer.specs.Base.{given}
use Rattle.lexer.specs.Words.{Numbered, is}
use Rattle.lexer.specs.declared.refusal.Refusal.{Refusal}
use lib.ListN.{length, get_or}
use mathlib.Core.Bool.{false}
use mathlib.Core.List.Memᴰ
use mathlib.Core.List.{List, [], ◌∷◌, ◌++◌}
use mathlib.Core.Logic.{◌↔◌}
use mathlib.Core.Option
use mathlib.Core.Option.{Option, none, some}
use mathlib.Core.Path.{◌≡◌, refl, sym, ap, ◌∙◌, subst}
use native.Mathlib.Omega.{arith}

-- These characters have these labels and state labels, empty where there are none.
record Shows (l : Labelled) (c : Character) : Type 0 where
  label : c.label ≡ Option.get_or l.label []
  states : c.states ≡ Option.get_or l.states []

abbrev AllShow : List Labelled → List Character → Type 0
AllShow [] [] = Unit {0}
AllShow [] (c ∷ cs) = ⊥
AllShow (l ∷ ls) [] = ⊥
AllShow (l ∷ ls) (c ∷ cs) = Shows l c × AllShow ls cs

unordered-show : (ls : List Labelled) → AllShow ls (unordered ls)
unfolding unordered
unordered-show [] = tt
unordered-show (l ∷ ls) = (record { label = refl; states = refl }, unordered-show ls)

retyped-show : (o : CharacterOrdering) (ts : Types) (ls : List Labelled) (cs : List Character) → AllShow ls cs → AllShow ls (retyped o ts cs)
unfolding retyped
retyped-show o ts [] [] p = tt
retyped-show o ts [] (c ∷ cs) p = elim p [ ]
retyped-show o [] (l ∷ ls) [] p = elim p [ ]
retyped-show o (t ∷ ts) (l ∷ ls) [] p = elim p [ ]
retyped-show o [] (l ∷ ls) (c ∷ cs) p = (record { label = p.0.label; states = p.0.states }, retyped-show o [] ls cs p.1)
retyped-show o (t ∷ ts) (l ∷ ls) (c ∷ cs) p = (record { label = p.0.label; states = p.0.states }, retyped-show o ts ls cs p.1)

-- The characters of a reading are labelled by these commands.
record LabelledWith (kept : List LabelCommand) (r : Reading) : Type 0 where
  count : ℕ
  size : ℕ
  labelled : List Labelled
  applied : apply_labels count size kept ≡ done labelled
  shown : AllShow labelled r.characters

typed-labelled : (default : Option CharacterOrdering) (set : Option Types) (kept : List LabelCommand) (r : Reading) → LabelledWith kept r → LabelledWith kept (with_types default set r)
unfolding with_types
typed-labelled default set kept r p =
    record {
      count = p.count;
      size = p.size;
      labelled = p.labelled;
      applied = p.applied;
      shown = retyped-show (Option.get_or default CharacterOrdering.Unordered) (Option.get_or set []) p.labelled r.characters p.shown;
    }

-- Behind these commands: outside of a data block there is no label command before the matrix is read, and then it is labelled by them all; in
-- a data block they are kept.
record ReadBy (cs : List Command) (r : Reading) : Type 0 where
  kept : List LabelCommand
  same : Same cs kept
  with : LabelledWith kept r

abbrev Outside : List Command → Option Reading → Type 0
Outside cs none = Same cs []
Outside cs (some r) = ReadBy cs r

abbrev Inside : List Command → Option Reading → Phase → Type 0
Inside cs m outside = Outside cs m
Inside cs m (in_taxa b count names) = Outside cs m
Inside cs m (in_data b d) = Same cs d.labels × Opt (LabelledWith d.labels) d.matrix
Inside cs m (in_assumptions b default set) = Outside cs m
Inside cs m (in_trees b) = Outside cs m

abbrev Held : List Command → State → Type 0
Held cs s = Inside cs s.matrix s.phase

to-outside : (cs : List Command) (m : Option Reading) (p : Phase) → Away p → Inside cs m p → Outside cs m
to-outside cs m outside a k = k
to-outside cs m (in_taxa b count names) a k = k
to-outside cs m (in_data b d) a k = absurd a
to-outside cs m (in_assumptions b default set) a k = k
to-outside cs m (in_trees b) a k = k

from-outside : (cs : List Command) (m : Option Reading) (p : Phase) → Away p → Outside cs m → Inside cs m p
from-outside cs m outside a k = k
from-outside cs m (in_taxa b count names) a k = k
from-outside cs m (in_data b d) a k = absurd a
from-outside cs m (in_assumptions b default set) a k = k
from-outside cs m (in_trees b) a k = k

typed-outside : (cs : List Command) (default : Option CharacterOrdering) (set : Option Types) (m : Option Reading) → Outside cs m → Outside cs (matrix_typed default set m)
unfolding matrix_typed
typed-outside cs default set none k = k
typed-outside cs default set (some r) k = record { kept = k.kept; same = k.same; with = typed-labelled default set k.kept r k.with }

unmatrixed : (cs : List Command) (m : Option Reading) → given m ≡ false → Outside cs m → Same cs []
unfolding given
unmatrixed cs none e k = k
unmatrixed cs (some r) e k = not-given (some r) r e refl

away-data : (p : Phase) (b : ℕ) (d : Data) → Away p → p ≡ in_data b d → ⊥
away-data p b d a e = rw e at a

module _ (cs : List Command) (s : State) (reached : fold step at_start cs ≡ done s) (h : Numbered) (raw : List Numbered) where
  abbrev more : List Command
  more = cs ++ (command h raw ∷ [])

  outside-later : Away s.phase → (m : Option Reading) → Outside cs m → Outside more m
  outside-later a none k = quiet cs s reached h raw (λ l ws x. away-data s.phase x.block x.block_data a x.inside) [] k
  outside-later a (some r) k =
      record { kept = k.kept; same = quiet cs s reached h raw (λ l ws x. away-data s.phase x.block x.block_data a x.inside) k.kept k.same; with = k.with }

  data-later : NoLabels h → (kept : List LabelCommand) → Same cs kept → Same more kept
  data-later other kept k = quiet cs s reached h raw (λ l ws x. other l x.word) kept k

  read-labelled : (d : Data) (r : Reading) → matrix d h raw ≡ done r → LabelledWith d.labels r
  read-labelled d r e =
      let p = matrix-parts d h raw r e in
      record {
        count = length p.shape.format.symbols;
        size = p.shape.characters;
        labelled = p.labelled;
        applied = p.labels;
        shown = subst (λ (x : Reading). AllShow p.labelled x.characters) p.is (unordered-show p.labelled);
      }

  none-given : (kept : List LabelCommand) (m : Option Reading) → given m ≡ false → Opt (LabelledWith kept) m
  unfolding given
  none-given kept none e = tt
  none-given kept (some r) e = not-given (some r) r e refl

  move-held : (t : State) → Held cs s → Move s h raw t → Held more t
  unfolding no_data
  move-held t k (elsewhere a b e) = from-outside more t.matrix t.phase b (rw e (outside-later a s.matrix (to-outside cs s.matrix s.phase a k)))
  move-held t k (typed default set a b e) =
      from-outside more t.matrix t.phase b (rw e (typed-outside more default set s.matrix (outside-later a s.matrix (to-outside cs s.matrix s.phase a k))))
  move-held t k (begins b a free e) = rw e (data_begins, tt)
    where
      data_begins : Same more []
      data_begins = outside-later a none (unmatrixed cs s.matrix free (to-outside cs s.matrix s.phase a k))
  move-held t k (left b d r inside matrix other away e) =
      let p : Same cs d.labels × Opt (LabelledWith d.labels) d.matrix = rw inside at k in
      from-outside more t.matrix t.phase away (rw e (record { kept = d.labels; same = data-later other d.labels p.0; with = rw matrix at p.1 }))
  move-held t k (labels b d e l inside free new word now kept matrix) =
      let p : Same cs d.labels × Opt (LabelledWith d.labels) d.matrix = rw inside at k in
      rw now (rw kept (kept-one cs s reached h raw b d l d.labels inside word new p.0), none-given e.labels e.matrix (rw matrix free))
  move-held t k (reads b d e r inside read other now kept matrix) =
      let p : Same cs d.labels × Opt (LabelledWith d.labels) d.matrix = rw inside at k in
      rw now (rw kept (data-later other d.labels p.0), rw (matrix, kept) (read-labelled d r read))
  move-held t k (declares b d e inside other now kept matrix) =
      let p : Same cs d.labels × Opt (LabelledWith d.labels) d.matrix = rw inside at k in
      rw now (rw kept (data-later other d.labels p.0), rw (matrix, kept) p.1)

step-held : (cs : List Command) (s : State) (c : Command) (t : State) → fold step at_start cs ≡ done s → Held cs s → step s c ≡ done t → Held (cs ++ (c ∷ [])) t
unfolding step
step-held cs s (empty i) t reached k e = refused-done Refusal.EmptyCommand i t e
step-held cs s (unended i) t reached k e = refused-done Refusal.UnendedCommand i t e
step-held cs s (command h raw) t reached k e = move-held cs s reached h raw t k (command-move s h raw t e)

-- Before the first command there is none.
start-held : Same [] []
start-held = record { from = λ c m. absurd (Memᴰ.not-nil m); held = λ l ws c. absurd (nowhere l ws c); once = λ l ws vs c d. absurd (nowhere l ws c) }
  where
    nowhere : (l : Labelling) (ws : List Numbered) → ¬ IsLabelCommand [] l ws
    nowhere l ws c = nothing-declared c.before c.after (command c.head c.raw) c.here

read_by : (text : List ℕ) (r : Reading) → read text ≡ reading r → ReadBy (commands_of text) r
unfolding at_start
read_by text r h =
    let f = read-finished text r h in
    let k = fold-history Held step at_start step-held (commands_of text) f.state start-held f.reached in
    let m : Outside (commands_of text) f.state.matrix = rw f.closed at k in
    rw f.matrix at m

-- The k-th character is the one that has the k-th labels.
at-shows : (ls : List Labelled) (before after : List Character) (c : Character) → AllShow ls (before ++ (c ∷ after))
    → (suc (length before) ≤ length ls) × Shows (get_or ls (length before) unlabelled) c
at-shows [] [] after c p = absurd p
at-shows [] (b ∷ before) after c p = absurd p
at-shows (l ∷ ls) [] after c p = (omega arith, p.0)
at-shows (l ∷ ls) (b ∷ before) after c p = let k = at-shows ls before after c p.1 in (omega arith, k.1)

-- An option's value, or something empty: what is not empty was there.
option-given : {A : Type 0} (o : Option A) (a e : A) → a ≡ Option.get_or o e → ¬ (a ≡ e) → o ≡ some a
option-given none a e h n = absurd (n h)
option-given (some b) a e h n = ap some (sym h)

option_is : {A : Type 0} (o : Option A) (a b e : A) → a ≡ Option.get_or o e → o ≡ some b → a ≡ b
option_is o a b e h is = h ∙ ap (λ x. Option.get_or x e) is

module _ (cs : List Command) (r : Reading) (p : ReadBy cs r) (k : ℕ) (c : Character) (at : Kth r.characters k c) where
  kth-shows : (1 ≤ k) × (k ≤ length p.with.labelled) × Shows (character k p.with.labelled) c
  unfolding character
  kth-shows =
      let x = at-shows p.with.labelled at.before at.after c (rw at.here at p.with.shown) in
      let low = at.counted in
      let same : length at.before ≡ k - 1 = omega arith in
      (omega arith, omega (arith, x.0), rw same at x.1)

  has : (g : Item) → whose g ≡ k → Has p.with.labelled g ↔ SomeGives p.kept g
  has g e =
      let a = labels-applied p.with.count p.with.size p.kept p.with.labelled p.with.applied in
      a.1 g (rw e kth-shows.0) (rw (e, ← a.0) kth-shows.1)

  given-has : (g : Item) → whose g ≡ k → (what : Labelling) (ws : List Numbered) → IsLabelCommand cs what ws → Gives what ws g → Has p.with.labelled g
  given-has g e what ws c gives =
      let kept = p.same.held what ws c in
      (has g e).1 (kept.0, kept.1, subst (λ (l : Labelling). Gives l kept.0.words g) (sym kept.2) (rw (← kept.3) at gives))

  labelled-by : LabelledBy cs k c
  labelled-by = record { label = label; label_given = label_given; states = states; states_given = states_given }
    where
      its : Labelled
      its = character k p.with.labelled

      label : (n : List ℕ) → LabelGiven cs k n → c.label ≡ n
      label n g = option_is its.label c.label n [] kth-shows.2.label (given-has (its_label k n) refl g.what g.words g.among g.gives)

      label_given : ¬ (c.label ≡ []) → LabelGiven cs k c.label
      label_given n =
          let g = (has (its_label k c.label) refl).0 (option-given its.label c.label [] kth-shows.2.label n) in
          record { what = g.0.what; words = g.0.words; among = p.same.from g.0 g.1; gives = g.2 }

      states : (s : List (List ℕ)) → StatesGiven cs k s → c.states ≡ s
      states s g = option_is its.states c.states s [] kth-shows.2.states (given-has (its_states k s) refl g.what g.words g.among g.gives)

      states_given : ¬ (c.states ≡ []) → StatesGiven cs k c.states
      states_given n =
          let g = (has (its_states k c.states) refl).0 (option-given its.states c.states [] kth-shows.2.states n) in
          record { what = g.0.what; words = g.0.words; among = p.same.from g.0 g.1; gives = g.2 }

pub labels-follow : (text : List ℕ) (r : Reading) → read text ≡ reading r → LabelsFollow (commands_of text) r.characters
labels-follow text r h =
    let p = read_by text r h in
    record { once = p.same.once; each = labelled-by (commands_of text) r p }
