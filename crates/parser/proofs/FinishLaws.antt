-- The end of a text, by its tests: the open block, the matrix, its data type, and whether a character is ordered. Assumes nothing.
use Rattle.std.specs.Prelude.{unwrap_or, Some, None, Ok, Err, Option}
use Prim.Native.Nat.{ℕ, ◌≤◌}
use Rattle.block.specs.Blocks as B
use Rattle.block.specs.Blocks.{final, has_ordered, orderable, with_types}
use Rattle.block.specs.Format as F
use Rattle.block.specs.Formats.{options_of}
use Rattle.block.specs.Outcome.{Outcome, done, refused}
use Rattle.block.specs.Reading.{Character, Reading}
use Rattle.block.specs.declared.data.DataType.{DataType}
use Rattle.block.specs.declared.format_options.Options.{Options}
use Rattle.commands.specs.MatrixHeld.{format_held, reading_held, untyped_held}
use Rattle.commands.specs.StateHeld.{Reader, matrix_of, phase_of, style_of}
use Rattle.commands.specs.StatePlaced.{MatrixPlaced}
use Rattle.commands.specs.Stepping.{Answers, answered, short}
use Rattle.commands.specs.WorkMap.{map_fits}
use Rattle.commands.specs.declared.state.Data.{Data}
use Rattle.commands.specs.declared.state.Held.{Held}
use Rattle.commands.specs.declared.state.Phase.{Phase}
use Rattle.lexer.proofs.Basics.{and-false}
use Rattle.lexer.proofs.OptionLaws.{given-or}
use Rattle.lexer.specs.Base.{pick}
use Rattle.lexer.specs.declared.refusal.Refusal.{Refusal}
use Rattle.parser.specs.ParsedHeld.{is_dna, parsed_held}
use Rattle.lexer.specs.Refusals.{fault}
use Rattle.block.specs.declared.model.CharacterOrdering.{CharacterOrdering}
use lib.ListN.{length, take}
use lib.Seq.{length-take-le}
use mathlib.Core.Bool.{Bool, true, false, ◌&&◌, not}
use mathlib.Core.List.{List}
use mathlib.Core.Path.{◌≡◌, refl, sym, ap, subst, ◌∙◌}

settled-type : (t : DataType) (o : F.Options) → (F.settled t o).data_type ≡ t
unfolding F.settled
settled-type DataType.Standard o = refl
settled-type DataType.Dna o = refl

module _ (text front : List ℕ) (style : Option Options) where
  pub none-dna : style ≡ None → false ≡ is_dna (format_held text front style).data_type
  unfolding format_held style_of F.default_format is_dna
  none-dna e = rw e

  pub given-dna : (o : Options) → style ≡ Some o → is_dna (unwrap_or o.data_type DataType.Standard) ≡ is_dna (format_held text front style).data_type
  unfolding format_held style_of F.format_of options_of F.options
  given-dna o e = rw (e, given-or) (ap is_dna (sym (settled-type _ _)))

-- The reading by the two tests
orderable-test : (t : DataType) (cs : List Character) → orderable t cs ≡ not (is_dna t && has_ordered cs)
unfolding orderable is_dna
orderable-test DataType.Standard cs = refl
orderable-test DataType.Dna cs = refl

module _ (header : ℕ) (r : Reading) where
  good : is_dna r.data_type && has_ordered r.characters ≡ false → done r ≡ final header r
  unfolding final pick
  good f = rw (orderable-test r.data_type r.characters, f)

  bad : is_dna r.data_type && has_ordered r.characters ≡ true → refused Refusal.OrderedDna header ≡ final header r
  unfolding final pick
  bad t = rw (orderable-test r.data_type r.characters, t)

module _ (text work : List ℕ) (count : ℕ) (h : Held) (header : ℕ) (dna : Bool) (dna_is : (t w : List ℕ) → dna ≡ is_dna (format_held t w h.style).data_type) where
  type-held : dna ≡ is_dna (reading_held text work count h).data_type
  unfolding reading_held with_types untyped_held
  type-held = dna_is text (take count work)

  pub standard-final : dna ≡ false → parsed_held text work count (Ok h) ≡ final header (reading_held text work count h)
  unfolding parsed_held
  standard-final f = good header (reading_held text work count h) (rw (← type-held, f))

  module _ (ordered : Bool) (ordered_is : (t : List ℕ) → ordered ≡ has_ordered (reading_held t work count h).characters) where
    pub dna-final : ordered ≡ false → parsed_held text work count (Ok h) ≡ final header (reading_held text work count h)
    unfolding parsed_held
    dna-final f = good header (reading_held text work count h) (rw (← ordered_is text, f) (and-false (is_dna (reading_held text work count h).data_type)))

    pub ordered-final : dna ≡ true → ordered ≡ true → parsed_held text work count (Err (fault Refusal.OrderedDna header)) ≡ final header (reading_held text work count h)
    unfolding parsed_held
    ordered-final d t = bad header (reading_held text work count h) (rw (← type-held, ← ordered_is text, d, t))

-- The end by the open block, and by the matrix
module _ (m : Reader) (text work : List ℕ) (d : Data) (matrix : Option Held) (phase : Phase) (header : ℕ) (st : B.State) where
  pub open-taxa : (b n : ℕ) (names : Option (ℕ × ℕ)) → phase ≡ Phase.Taxa b n names → refused Refusal.UnendedBlock b ≡ B.finish_in header st (phase_of m text work d matrix phase)
  unfolding B.finish_in phase_of
  open-taxa b n names e = rw e

  pub open-data : (b : ℕ) → phase ≡ Phase.Data b → refused Refusal.UnendedBlock b ≡ B.finish_in header st (phase_of m text work d matrix phase)
  unfolding B.finish_in phase_of
  open-data b e = rw e

  pub open-assumptions : (b : ℕ) (default : Option CharacterOrdering) (typed : Bool) → phase ≡ Phase.Assumptions b default typed → refused Refusal.UnendedBlock b ≡ B.finish_in header st (phase_of m text work d matrix phase)
  unfolding B.finish_in phase_of
  open-assumptions b default typed e = rw e

  pub open-trees : (b : ℕ) → phase ≡ Phase.Trees b → refused Refusal.UnendedBlock b ≡ B.finish_in header st (phase_of m text work d matrix phase)
  unfolding B.finish_in phase_of
  open-trees b e = rw e

  outside-end : phase ≡ Phase.Outside → B.finish_in header st (phase_of m text work d matrix phase) ≡ B.matrix_read header st.matrix
  unfolding B.finish_in phase_of
  outside-end e = rw e

  pub no-matrix : phase ≡ Phase.Outside → st.matrix ≡ matrix_of m text work matrix → matrix ≡ None → refused Refusal.Absent header ≡ B.finish_in header st (phase_of m text work d matrix phase)
  unfolding B.matrix_read matrix_of
  no-matrix e s n = sym (outside-end e ∙ ap (B.matrix_read header) (s ∙ ap (matrix_of m text work) n))

  pub read-matrix : (h : Held) → phase ≡ Phase.Outside → st.matrix ≡ matrix_of m text work matrix → matrix ≡ Some h → final header (m.reading h) ≡ B.finish_in header st (phase_of m text work d matrix phase)
  unfolding B.matrix_read matrix_of
  read-matrix h e s n = sym (outside-end e ∙ ap (B.matrix_read header) (s ∙ ap (matrix_of m text work) n))

-- An answer is as right as what it is compared with.
module _ {X : Type 0} {one two : Type 0} (answer right other : Outcome X) where
  pub answers-from : (two → one) → right ≡ other → Answers one answer right → Answers two answer other
  answers-from f e (answered a) = answered (a ∙ e)
  answers-from f e (short a n) = short a (λ t. n (f t))

pub placed-fits : (text work : List ℕ) (count : ℕ) (matrix : Option Held) (h : Held) → count ≤ length work → matrix ≡ Some h → MatrixPlaced text (take count work) (length work) matrix → map_fits (length work) count h.lines h.taxa h.characters ≡ true
placed-fits text work count matrix h l e p = rw (length-take-le count work l) at (subst (MatrixPlaced text (take count work) (length work)) e p)
