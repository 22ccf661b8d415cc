-- What the MATRIX command of a text comes to stays, but for types, up to the reading: so its data type and its symbols are those of the format
-- by which its rows are read. Assumes nothing.
use Prim.Native.Nat.{ℕ}
use Rattle.block.proofs.BlockMoves.{Away, Move, elsewhere, typed, begins, left, labels, reads, declares, command-move}
use Rattle.block.proofs.ChunkSound.{some_inj}
use Rattle.block.proofs.DeclaredHeld.{other_word}
use Rattle.block.proofs.LabelsGained.{not-given}
use Rattle.block.proofs.MatrixParts.{matrix-parts, matrix-shaped}
use Rattle.block.proofs.OutcomeLaws.{Any, all_any, refused-done, done_inj, then-done, fold-keeps}
use Rattle.block.proofs.ReadCommands.{read-finished}
use Rattle.block.specs.Blocks.{Data, in_data, State, at_start, matrix, with_matrix, with_types, matrix_typed, ends, step}
use Rattle.block.specs.Commands.{Command, command, empty, unended}
use Rattle.block.specs.Format.{Format, default_format}
use Rattle.block.specs.Outcome.{Outcome, done, fold}
use Rattle.block.specs.Parse.{reading, read}
use Rattle.block.specs.Reading.{Reading}
use Rattle.block.specs.TaxonOrder.{commands_of, MatrixOf}
use Rattle.block.specs.Typeset.{Types}
use Rattle.block.specs.declared.model.CharacterOrdering.{CharacterOrdering}
use Rattle.demands.proofs.DataCommands as Done
use Rattle.demands.proofs.DataCommands.{ByPhase, to-outside, from-outside, Does, Within, data-within}
use Rattle.lexer.proofs.Basics.{by-test, not-both}
use Rattle.lexer.specs.Base.{pick, bytes, alike, lower}
use Rattle.lexer.specs.Words.{Numbered, is}
use Rattle.lexer.specs.declared.refusal.Refusal.{Refusal}
use mathlib.Core.Bool.{true, false}
use mathlib.Core.List.{List, [], ◌∷◌, ◌++◌}
use mathlib.Core.Option.{Option, some, get_or}
use mathlib.Core.Path.{◌≡◌, refl, sym, ap, ◌∙◌}

-- A fold over words, cut at one of them.
module _ {S W : Type 0} (turn : S → W → Outcome S) where
  fold-cut : (start : S) (before : List W) (w : W) (after : List W) (s u : S) → fold turn start before ≡ done s → fold turn start (before ++ (w ∷ after)) ≡ done u
      → (t : S) × (turn s w ≡ done t) × (fold turn t after ≡ done u)
  unfolding fold
  fold-cut start [] w after s u h e = rw (done_inj h) at (then-done (turn start w) (λ t. fold turn t after) u e)
  fold-cut start (v ∷ before) w after s u h e =
      let one = then-done (turn start v) (λ t. fold turn t before) s h in
      let two = then-done (turn start v) (λ t. fold turn t (before ++ (w ∷ after))) u e in
      let same : two.0 ≡ one.0 = done_inj (sym two.1 ∙ one.1) in
      fold-cut one.0 before w after s u one.2 (rw same at two.2)

-- What holds of a matrix, whatever types are given.
module _ (P : Reading → Type 0) (retyped : (r : Reading) (default : Option CharacterOrdering) (set : Option Types) → P r → P (with_types default set r)) where
  abbrev Some : Option Reading → Type 0
  Some m = (r : Reading) × (m ≡ some r) × P r

  abbrev Held : State → Type 0
  Held s = ByPhase (Some s.matrix) (λ b d. Some d.matrix) s.phase

  typed-some : (default : Option CharacterOrdering) (set : Option Types) (m : Option Reading) → Some m → Some (matrix_typed default set m)
  unfolding matrix_typed
  typed-some default set m (r, is, p) = (with_types default set r, rw is, retyped r default set p)

  module _ (s : State) (h : Numbered) (raw : List Numbered) (t : State) (e : step s (command h raw) ≡ done t) (i : Held s) where
    -- In a data block with its matrix only END is taken.
    stays : (b : ℕ) (d : Data) → s.phase ≡ in_data b d → Held t
    stays b d at = go (rw at at i) (data-within s b d at h raw t e)
      where
        go : Some d.matrix → Within b d h raw t → Held t
        go (r, is, p) (Done.over x end there out now) = rw out (x, now, rw (← some_inj (sym is ∙ there)) p)
        go (r, is, p) (Done.on x free does now) = not-given d.matrix r free is

    away : Away s.phase → Some s.matrix
    away a = to-outside (Some s.matrix) (λ b d. Some d.matrix) s.phase a i

    moved : Move s h raw t → Held t
    moved (elsewhere a out m) = from-outside (Some t.matrix) (λ b d. Some d.matrix) t.phase out (rw m (away a))
    moved (typed default set a out m) = from-outside (Some t.matrix) (λ b d. Some d.matrix) t.phase out (rw m (typed-some default set s.matrix (away a)))
    moved (begins b a free at) = let x = away a in not-given s.matrix x.0 free x.1
    moved (left b d r at m n out q) = stays b d at
    moved (labels b d x l at m n w q g f) = stays b d at
    moved (reads b d x r at m n q g f) = stays b d at
    moved (declares b d x at n q g f) = stays b d at

  keeps : (s : State) (c : Command) (t : State) → Held s → Any c → step s c ≡ done t → Held t
  unfolding step
  keeps s (empty i) t p q e = refused-done Refusal.EmptyCommand i t e
  keeps s (unended i) t p q e = refused-done Refusal.UnendedCommand i t e
  keeps s (command h raw) t p q e = moved s h raw t e p (command-move s h raw t e)

  module _ (text : List ℕ) (r : Reading) (h : read text ≡ reading r) (m : MatrixOf (commands_of text)) (p : (x : Reading) → matrix m.block_data m.head m.raw ≡ done x → P x) where
    not_this : {X : Type 0} (k : List ℕ) → alike k (bytes "MATRIX") ≡ false → is k m.head ≡ true → X
    not_this k e q = other_word k (bytes "MATRIX") m.head e q m.word

    not_end : {X : Type 0} → ends m.head ≡ true → X
    unfolding ends alike bytes lower pick
    not_end e = by-test (is (bytes "END") m.head) (not_this (bytes "END") refl) (λ n. not_this (bytes "ENDBLOCK") refl (rw n at e))

    brought : (e : Data) → Does m.block_data m.head m.raw e → Some e.matrix
    unfolding with_matrix alike bytes lower pick
    brought e (Done.sizes x w free v same) = not_this (bytes "DIMENSIONS") refl w
    brought e (Done.formats x w free v same) = not_this (bytes "FORMAT") refl w
    brought e (Done.reads x w v same) = (x, ap (λ y. y.matrix) (sym same), p x v)
    brought e (Done.other n f o same like) = not-both o m.word

    begun : (t : State) → Within m.block m.block_data m.head m.raw t → Held t
    begun t (Done.over x e there out now) = not_end e
    begun t (Done.on e free does now) = rw now (brought e does)

    matrix-stays : P r
    matrix-stays =
        let f = read-finished text r h in
        let x = fold-cut step at_start m.before (command m.head m.raw) m.after m.state f.state m.reached (sym (ap (fold step at_start) m.here) ∙ f.reached) in
        let first = begun x.0 (data-within m.state m.block m.block_data m.inside m.head m.raw x.0 x.1) in
        let last = fold-keeps Held Any step keeps x.0 m.after f.state first (all_any m.after) x.2 in
        let some : Some f.state.matrix = rw f.closed at last in
        rw (some_inj (sym some.1 ∙ f.matrix)) at some.2

-- The format by which the rows are read is that of the block.
pub shape-format : {cs : List Command} (m : MatrixOf cs) → m.shape.format ≡ get_or m.block_data.format default_format
shape-format m = (matrix-shaped m.block_data m.dimensions m.head.index m.shape m.shaped).formatted

-- Data type and symbols of a format.
pub record Of (f : Format) (r : Reading) : Type 0 where
  pub data_type : r.data_type ≡ f.data_type
  pub symbols : r.symbols ≡ f.symbols

pub format-followed : (text : List ℕ) (r : Reading) → read text ≡ reading r → (m : MatrixOf (commands_of text)) → Of m.shape.format r
unfolding with_types
format-followed text r h m =
    matrix-stays (Of m.shape.format) (λ x default set o. record { data_type = o.data_type; symbols = o.symbols }) text r h m
    (λ x e.
    let p = matrix-parts m.block_data m.head m.raw x e in
    let same : p.shape.format ≡ m.shape.format = p.shaped.formatted ∙ sym (shape-format m) in
    record { data_type = ap (λ y. y.data_type) (sym p.is) ∙ ap (λ f. f.data_type) same; symbols = ap (λ y. y.symbols) (sym p.is) ∙ ap (λ f. f.symbols) same })
