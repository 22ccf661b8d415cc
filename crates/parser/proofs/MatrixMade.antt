-- MATRIX as a step: whether it may be stored, and the state behind it. Assumes nothing.
use Rattle.std.specs.Prelude.{Some, None, Ok, Err, Option, Result}
use Prim.Native.Nat.{ℕ, zero, suc, ◌+◌, ◌≤◌, ◌<◌}
use Rattle.block.proofs.MatrixParts.{matrix-shaped}
use Rattle.block.specs.Blocks as B
use Rattle.block.specs.Outcome.{Outcome, done, need, refused, then}
use Rattle.block.specs.Reading.{Reading}
use Rattle.block.specs.Sequential.{Shape}
use Rattle.block.specs.declared.data.CharacterNumber.{CharacterNumber}
use Rattle.block.specs.declared.data.TaxonNumber.{TaxonNumber}
use Rattle.block.specs.declared.dimension.Dimensions.{Dimensions}
use Rattle.commands.specs.MatrixHeld.{format_held, held}
use Rattle.commands.specs.StateHeld.{Reader, data_of, matrix_of, names_in, state_of, stepped}
use Rattle.lexer.specs.Base.{option_of}
use Rattle.commands.specs.StatePlaced.{DataPlaced, PhasePlaced, StatePlaced}
use Rattle.commands.specs.Stepping.{Answers, Enough, Made, answered, short, state_held, step_held}
use Rattle.commands.specs.WorkMap.{map_fits}
use Rattle.commands.specs.declared.state.Data.{Data}
use Rattle.commands.specs.declared.state.Phase.{Phase}
use Rattle.commands.specs.declared.state.State.{State}
use Rattle.lexer.proofs.Basics.{and_both, and_left, and_right}
use Rattle.lexer.specs.Lexing.{longest, work_needed}
use Rattle.lexer.specs.Stored.{word_of}
use Rattle.lexer.specs.declared.refusal.Refusal.{Refusal}
use Rattle.matrix.specs.Lines.{RowsRoom}
use Rattle.parser.proofs.FormatHeld.{placed-few}
use Rattle.parser.proofs.StartsLaws.{names-placed-within, placed-within}
use Rattle.parser.specs.Storing.{MatrixStored, ReadingMade, commands_within, held_of, matrix_step, names_within, none_held, reading_step, rows_reading, shape_of, storable, symbols_few}
use Rattle.lexer.specs.declared.Fault.{Fault}
use Rattle.lexer.specs.Refusals.{fault}
use Rattle.commands.specs.declared.state.Held.{Held}
use borrow.Author.Tests.{le-leb, leb-true}
use lib.Seq.{length-take-le}
use lib.Dec.{leb, eqb}
use lib.ListN.{length, take}
use mathlib.Core.Bool.{Bool, true, false, ◌&&◌, true≢false}
use mathlib.Core.List.{List}
use mathlib.Core.Path.{◌≡◌, refl, sym, ap, subst, ◌∙◌}
use native.Mathlib.Omega.{arith}

-- What may be stored, as facts.
pub record Storing (bytes size count : ℕ) (matrix : Option Held) (d : Data) (few : Bool) : Type 0 where
  pub short_text : bytes ≤ 1048576
  pub few_tokens : count ≤ 1048576
  pub room : count + count ≤ size
  pub symbols : few ≡ true
  pub free : none_held matrix ≡ true
  pub names : names_within count d.names ≡ true
  pub labels : commands_within count d.labels ≡ true

module _ (bytes size count : ℕ) (matrix : Option Held) (d : Data) (few : Bool) where
  pub storing : storable bytes size count matrix d few ≡ true → Storing bytes size count matrix d few
  unfolding storable longest
  storing h =
      let a = leb bytes 1048576 in
      let b = leb count 1048576 in
      let r = leb (count + count) size in
      let n = none_held matrix in
      let p = names_within count d.names in
      let q = commands_within count d.labels in
      let two = and_left (a && b) (r && few && n && p && q) h in
      let five = and_right (a && b) (r && few && n && p && q) h in
      let four = and_left (r && few && n && p) q five in
      let three = and_left (r && few && n) p four in
      let pair = and_left (r && few) n three in
      record {
        short_text = leb-true bytes 1048576 (and_left a b two);
        few_tokens = leb-true count 1048576 (and_right a b two);
        room = leb-true (count + count) size (and_left r few pair);
        symbols = and_right r few pair;
        free = and_right (r && few) n three;
        names = and_right (r && few && n) p four;
        labels = and_right (r && few && n && p) q five;
      }

  stores : Storing bytes size count matrix d few → storable bytes size count matrix d few ≡ true
  unfolding storable longest
  stores x =
      and_both (and_both (le-leb bytes 1048576 x.short_text) (le-leb count 1048576 x.few_tokens))
      (and_both (and_both (and_both (and_both (le-leb (count + count) size x.room) x.symbols) x.free) x.names) x.labels)

-- In a data block that is placed nothing else is held.
module _ (text front : List ℕ) (size : ℕ) (s : State) (b : ℕ) (e : s.phase ≡ Phase.Data b) (p : StatePlaced text front size s) where
  data-open : DataPlaced text front size s.«data» × (s.matrix ≡ None)
  data-open = subst (PhasePlaced text front size s) e p.phase

  data-there : DataPlaced text front size s.«data»
  data-there = data-open.0

  data-free : s.matrix ≡ None
  data-free = data-open.1

module _ (text before : List ℕ) (count head to : ℕ) (s : State) (b : ℕ) (room : count ≤ length before) (few : Bool)
    (told : few ≡ symbols_few text (take count before) s.«data».style) where
  -- What reading it asks for.
  pub storing-asks : head < to → to ≤ count → storable (length text) (length before) count s.matrix s.«data» few ≡ true
      → (head < to) × (count ≤ length before) × RowsRoom text before count to × (symbols_few text (take count before) s.«data».style ≡ true) × (names_within count s.«data».names ≡ true) × (commands_within count s.«data».labels ≡ true)
  storing-asks ahead within h =
      let x = storing (length text) (length before) count s.matrix s.«data» few h in
      let r : RowsRoom text before count to = record { apart = within; behind = omega (arith, x.room); tokens = omega (arith, x.few_tokens); bytes = x.short_text } in
      (ahead, room, r, sym told ∙ x.symbols, x.names, x.labels)

  -- It may be stored where work memory is enough and the state is placed.
  never-short : s.phase ≡ Phase.Data b → Enough text before count → StatePlaced text (take count before) (length before) s → storable (length text) (length before) count s.matrix s.«data» few ≡ true
  unfolding none_held longest work_needed
  never-short e enough p =
      let d = data-there text (take count before) (length before) s b e p in
      let free = data-free text (take count before) (length before) s b e p in
      let same = length-take-le count before room in
      stores (length text) (length before) count s.matrix s.«data» few
      (record {
        short_text = enough.bytes;
        few_tokens = omega (arith, enough.tokens, enough.bytes);
        room = omega (arith, enough.tokens, enough.room);
        symbols = told ∙ placed-few text (take count before) (length before) s.«data».style d.style;
        free = rw free;
        names = rw same at (names-placed-within text (take count before) (length before) s.«data».names d.names);
        labels = rw same at (placed-within text (take count before) (length before) s.«data».labels d.labels);
      })

  pub storing-short : s.phase ≡ Phase.Data b → storable (length text) (length before) count s.matrix s.«data» few ≡ false → (right : Outcome B.State)
      → Made text before before count head to s (Err (fault Refusal.WorkMemoryShort 0)) right
  unfolding step_held stepped
  storing-short e f right =
      record {
        size = refl;
        kept = refl;
        step = short refl (λ x. absurd (true≢false (sym (never-short e x.0 x.2) ∙ f)));
        placed = λ c p. tt;
      }

-- Data with another matrix, and a state that holds none in another block, are the same however a matrix reads.
with-any : (m n : Reader) (text front : List ℕ) (d : Data) (x : Reading) → B.with_matrix (data_of m text front d) x ≡ B.with_matrix (data_of n text front d) x
unfolding B.with_matrix data_of
with-any m n text front d x = refl

phase-any : (m n : Reader) (text front : List ℕ) (s : State) (p : B.Phase) → s.matrix ≡ None → B.in_phase p (state_of m text front s) ≡ B.in_phase p (state_of n text front s)
unfolding B.in_phase state_of matrix_of
phase-any m n text front s p e = rw e

-- The state with the matrix that was stored.
stored-state : (m n : Reader) (text front starts : List ℕ) → front ≡ starts → (s t : State) (d : Data) (b : ℕ) (x : Reading) → s.matrix ≡ None
    → data_of m text front d ≡ B.with_matrix (data_of m text front s.«data») x
    → state_of m text front t ≡ B.in_phase (B.in_data b (data_of m text front d)) (state_of m text front s)
    → state_of m text front t ≡ B.in_phase (B.in_data b (B.with_matrix (data_of n text starts s.«data») x)) (state_of n text starts s)
stored-state m n text front starts same s t d b x free made opened =
    opened ∙ ap (λ y. B.in_phase (B.in_data b y) (state_of m text front s)) (made ∙ with-any m n text front s.«data» x) ∙ phase-any m n text front s _ free ∙ rw same

-- What is answered of the reading is answered of the state.
module _ {enough more : Type 0} (narrow : more → enough) (k : Reading → Outcome B.State) where
  refused-on : (n : Refusal) (i : ℕ) (right : Outcome Reading) → Answers enough (refused n i) right → Answers more (refused n i) (then right k)
  unfolding then
  refused-on n i right (answered e) = answered (rw (← e))
  refused-on n i right (short e f) =
      let never : more → ⊥ = λ x. f (narrow x) in
      let same : ◌≡◌ {A = Outcome B.State} (refused n i) (refused Refusal.WorkMemoryShort 0) = cc in
      short same never

  done_on : (x : Reading) (right : Outcome Reading) (o : Outcome B.State) → o ≡ k x → Answers enough (done x) right → Answers more o (then right k)
  unfolding then
  done_on x right o e (answered g) = answered (e ∙ rw (← g))
  done_on x right o e (short g f) = absurd (let z : ◌≡◌ {A = ℕ} 0 1 = cc in omega arith)

module _ (text before after : List ℕ) (count head to taxa characters : ℕ) (s : State) (b : ℕ) (e : s.phase ≡ Phase.Data b)
    (agreed : B.agrees (names_in text (take count before) s.«data».names) taxa ≡ true) (some_taxa : 1 ≤ taxa) where
  pub storing-refused : (n : Refusal) (i : ℕ) → ReadingMade text before after count head to taxa characters s.«data» (Err (fault n i))
      → Made text before after count head to s (Err (fault n i)) (reading_step text before count s b head to taxa characters)
  unfolding step_held stepped rows_reading reading_step
  storing-refused n i r =
      record {
        size = r.size;
        kept = r.kept;
        step = refused-on (λ x. (x.0, x.1)) _ n i _ (r.read (held text before count) agreed some_taxa);
        placed = λ c p. tt;
      }

  pub storing-done : (lines : ℕ) → ReadingMade text before after count head to taxa characters s.«data» (Ok lines) → s.matrix ≡ None → (count ≤ length before) → (d : Data) (t : State)
      → ((m : Reader) (text work : List ℕ) → data_of m text work d ≡ B.with_matrix (data_of m text work s.«data») (m.reading (held_of s.«data» head to lines taxa characters)))
      → ((m : Reader) (text work : List ℕ) → state_of m text work t ≡ B.in_phase (B.in_data b (data_of m text work d)) (state_of m text work s))
      → ((text front : List ℕ) (size : ℕ) → DataPlaced text front size s.«data» → map_fits size (length front) lines taxa characters ≡ true → DataPlaced text front size d)
      → ((text front : List ℕ) (size : ℕ) → StatePlaced text front size s → DataPlaced text front size d → s.matrix ≡ None → StatePlaced text front size t)
      → Made text before after count head to s (Ok t) (reading_step text before count s b head to taxa characters)
  unfolding step_held stepped rows_reading reading_step state_held held
  storing-done lines r free room d t made opened placed-data placed-state =
      let m = held text after count in
      let x = m.reading (held_of s.«data» head to lines taxa characters) in
      let fronts : length (take count before) ≡ count = length-take-le count before room in
      record {
        size = r.size;
        kept = r.kept;
        step =
            done_on (λ y. (y.0, y.1)) _ x _ _
            (ap done (stored-state m (held text before count) text (take count after) (take count before) r.kept s t d b x free (made m text (take count after)) (opened m text (take count after))))
            (r.read (held text before count) agreed some_taxa);
        placed =
            λ c p.
            rw (r.kept, r.size)
            (placed-state text (take count before) (length before) p
            (placed-data text (take count before) (length before) (data-there text (take count before) (length before) s b e p) (rw (r.size, ← fronts) at (r.fits lines refl))) free);
      }

not-zero : (n : ℕ) → eqb n 0 ≡ false → 1 ≤ n
not-zero zero e = absurd (true≢false e)
not-zero (suc n) e = omega arith

-- MATRIX by its shape.
module _ (text before after : List ℕ) (count head to : ℕ) (s : State) (b : ℕ) where
  pub matrix-absent : s.«data».sizes ≡ None → Made text before before count head to s (Err (fault Refusal.Absent head)) (matrix_step text before count s b head to)
  unfolding step_held stepped matrix_step B.matrix need then data_of option_of word_of
  matrix-absent e = record { size = refl; kept = refl; step = answered (rw e); placed = λ c p. tt }

  module _ (dims : Dimensions) (given : s.«data».sizes ≡ Some dims) (r : Result (TaxonNumber × CharacterNumber) Refusal)
      (told : (m : Reader) (k : ℕ) → shape_of (format_held text (take count before) s.«data».style) k r ≡ B.matrix_shape (data_of m text (take count before) s.«data») dims k) where
    pub matrix-unshaped : (n : Refusal) → r ≡ Err n → Made text before before count head to s (Err (fault n head)) (matrix_step text before count s b head to)
    unfolding step_held stepped matrix_step B.matrix B.matrix_shape need then data_of option_of word_of shape_of
    matrix-unshaped n e =
        let same : refused n head ≡ B.matrix_shape (data_of (held text before count) text (take count before) s.«data») dims head = rw e at (told (held text before count) head) in
        record { size = refl; kept = refl; step = answered (rw (given, ← same)); placed = λ c p. tt }

    module _ (taxa : TaxonNumber) (characters : CharacterNumber) (counts : r ≡ Ok (taxa, characters)) where
      abbrev whole : Shape
      whole = record { taxa = taxa.0; characters = characters.0; format = format_held text (take count before) s.«data».style; head = head }

      shaped : done whole ≡ B.matrix_shape (data_of (held text before count) text (take count before) s.«data») dims head
      unfolding shape_of
      shaped = rw counts at (told (held text before count) head)

      shape-agrees : B.agrees (names_in text (take count before) s.«data».names) taxa.0 ≡ true
      unfolding data_of
      shape-agrees = (matrix-shaped _ dims head whole (sym shaped)).agreed

      shape-some : 1 ≤ taxa.0
      shape-some = not-zero taxa.0 (matrix-shaped _ dims head whole (sym shaped)).some_taxa

      same_step : reading_step text before count s b head to taxa.0 characters.0 ≡ matrix_step text before count s b head to
      unfolding reading_step matrix_step B.matrix B.matrix_reading B.matrix_shape need then data_of option_of word_of
      same_step = rw (given, ← shaped)

      pub matrix-shaped-made : (x : Result State (Fault ℕ)) → MatrixStored text before after count s b head to taxa.0 characters.0 x → s.phase ≡ Phase.Data b
          → Made text before after count head to s x (matrix_step text before count s b head to)
      matrix-shaped-made x stored e = subst (Made text before after count head to s x) same_step (stored e shape-agrees shape-some)
