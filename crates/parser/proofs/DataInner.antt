-- A command of a data block: MATRIX, by what was read before it, and any other. Assumes nothing.
use Rattle.std.specs.Prelude.{None, Err, Result, ⊤}
use Prim.Native.Nat.{ℕ, ◌+◌, ◌≤◌, ◌<◌}
use Rattle.block.proofs.DeclaredHeld.{other_word}
use Rattle.block.specs.Blocks as B
use Rattle.block.specs.Blocks.{data_command, data_step, in_data, in_phase, matrix, with_matrix}
use Rattle.block.specs.Outcome.{Outcome, done, refused, then}
use Rattle.block.specs.Reading.{Reading}
use Rattle.commands.proofs.AnswerLaws.{answers-wider}
use Rattle.commands.proofs.DataLaws.{step-behind}
use Rattle.commands.specs.MatrixHeld.{held}
use Rattle.commands.specs.StateHeld.{Reader, data_of, matrix_of, state_of, stepped}
use Rattle.commands.specs.StatePlaced.{CommandPlaced, DataPlaced, StatePlaced, SteppedPlaced}
use Rattle.commands.specs.Stepping.{Answers, Made, state_held, step_held}
use Rattle.commands.specs.declared.state.Phase.{Phase}
use Rattle.commands.specs.declared.state.State.{State}
use Rattle.lexer.proofs.Basics.{by-test}
use Rattle.lexer.proofs.RangeLaws.{word_kept}
use Rattle.lexer.specs.Base.{alike, bytes, given, lower, pick}
use Rattle.lexer.specs.Stored.{range, word_of}
use Rattle.lexer.specs.Words.{Numbered, is}
use Rattle.lexer.specs.declared.refusal.Refusal.{Refusal}
use Rattle.parser.proofs.MadeLaws.{kept-made, made_as}
use Rattle.parser.proofs.StartsLaws.{word-front}
use Rattle.parser.proofs.StepLaws.{data-placed}
use Rattle.parser.proofs.TaxaTold.{told-made}
use Rattle.parser.specs.Storing.{matrix_step}
use Rattle.parser.specs.TaxaTold.{TaxaTold}
use Rattle.lexer.specs.declared.Fault.{Fault}
use Rattle.lexer.specs.Refusals.{fault}
use lib.ListN.{length, take}
use mathlib.Core.Bool.{Bool, true, false}
use mathlib.Core.List.{List}
use mathlib.Core.Path.{◌≡◌, refl, sym, ap, ◌∙◌}
use native.Mathlib.Omega.{arith}

-- A word that is one keyword is no other.
other_key : (k l : List ℕ) (h : Numbered) → alike k l ≡ false → is k h ≡ true → is l h ≡ false
other_key k l h e p = by-test (is l h) (λ q. other_word k l h e p q) (λ f. f)

module _ (h : Numbered) (raw : List Numbered) (b : ℕ) (d : B.Data) (s : B.State) where
  in-state : (o : Outcome Reading) → then o (λ x. done (in_phase (in_data b (with_matrix d x)) s)) ≡ then (then (then o (λ x. done (with_matrix d x))) (λ x. done (in_data b x))) (λ p. done (in_phase p s))
  unfolding then
  in-state (done x) = refl
  in-state (refused n i) = refl

  -- MATRIX, where no matrix was read before.
  step-matrix : is (bytes "MATRIX") h ≡ true → given d.matrix ≡ false
      → then (matrix d h raw) (λ x. done (in_phase (in_data b (with_matrix d x)) s)) ≡ then (data_step h raw b d) (λ p. done (in_phase p s))
  unfolding data_step data_command pick alike bytes lower
  step-matrix t e =
      let k = bytes "MATRIX" in
      rw (e, other_key k (bytes "DIMENSIONS") h refl t, other_key k (bytes "FORMAT") h refl t, other_key k (bytes "TAXLABELS") h refl t, t) (in-state (matrix d h raw))

-- What the step comes to.
abbrev data_right : List ℕ → List ℕ → ℕ → ℕ → ℕ → State → ℕ → Outcome B.State
data_right text work count head to s b =
    then (data_step (word_of text (take count work) head) (range text (take count work) (head + 1) to) b (data_of (held text work count) text (take count work) s.«data»))
    (λ p. done (in_phase p (state_held text work count s)))

-- A command behind the matrix.
module _ (text work : List ℕ) (count head to : ℕ) (s : State) (b : ℕ) where
  pub behind-made : (seen : Bool) → ((m : Reader) (t w : List ℕ) → seen ≡ given (matrix_of m t w s.«data».matrix)) → seen ≡ true
      → Made text work work count head to s (Err (fault Refusal.Command head)) (data_right text work count head to s b)
  unfolding step_held stepped word_of data_of
  behind-made seen known e =
      kept-made text work count head to s (Err (fault Refusal.Command head))
      (step-behind (word_of text (take count work) head) _ b _ _ (sym (known (held text work count) text (take count work)) ∙ e)) (λ k p. tt)

module _ (text work : List ℕ) (count head to : ℕ) (s : State) (b : ℕ) (ahead : head < to) (within : to ≤ count) (open_here : s.phase ≡ Phase.Data b)
    (first : Bool) (is_first : first ≡ is (bytes "MATRIX") (word_of text work head)) where
  tested : (t : Bool) → first ≡ t → is (bytes "MATRIX") (word_of text (take count work) head) ≡ t
  tested t e = ap (is (bytes "MATRIX")) (sym (word-front text work count head (omega arith))) ∙ sym is_first ∙ e

  -- A command that is not MATRIX.
  pub other-made : first ≡ false → (r : Result State (Fault ℕ))
      → ((m : Reader) (size : ℕ) → is (bytes "MATRIX") (word_of text (take count work) head) ≡ false → Answers (DataPlaced text (take count work) size s.«data») (stepped m text (take count work) r)
      (then (data_step (word_of text (take count work) head) (range text (take count work) (head + 1) to) b (data_of m text (take count work) s.«data»)) (λ p. done (in_phase p (state_of m text (take count work) s)))))
      → ((size : ℕ) → CommandPlaced (take count work) head to → StatePlaced text (take count work) size s → DataPlaced text (take count work) size s.«data» → s.matrix ≡ None → SteppedPlaced text (take count work) size r)
      → Made text work work count head to s r (data_right text work count head to s b)
  unfolding step_held state_held
  other-made f r a p =
      let placed : StatePlaced text (take count work) (length work) s → DataPlaced text (take count work) (length work) s.«data» × (s.matrix ≡ None) =
      λ q. data-placed text (take count work) (length work) s s.phase b open_here q.phase in
      record {
        size = refl;
        kept = refl;
        step = answers-wider (λ q. (placed q.2).0) (a (held text work count) (length work) (tested false f));
        placed = λ k q. p (length work) k q (placed q).0 (placed q).1;
      }

  -- MATRIX.
  pub matrix-made : first ≡ true → (seen : Bool) → ((m : Reader) (t w : List ℕ) → seen ≡ given (matrix_of m t w s.«data».matrix)) → seen ≡ false
      → (after : List ℕ) (r : Result State (Fault ℕ)) → (s.phase ≡ Phase.Data b → Made text work after count head to s r (matrix_step text work count s b head to))
      → Made text work after count head to s r (data_right text work count head to s b)
  unfolding matrix_step data_of
  matrix-made t seen known e after r made =
      made_as text work after count head to s r
      (step-matrix (word_of text (take count work) head) (range text (take count work) (head + 1) to) b (data_of (held text work count) text (take count work) s.«data») (state_held text work count s)
      (tested true t) (sym (known (held text work count) text (take count work)) ∙ e))
      (made open_here)

-- Such a step behind the judgement of the words of TAXLABELS is the step over the command.
module _ (text before work : List ℕ) (count head to : ℕ) (s : State) (b : ℕ) (j : Result ⊤ (Fault ℕ)) (t : TaxaTold text before work count head to s j) where
  pub told-first : head < count → (first : Bool) → first ≡ is (bytes "MATRIX") (word_of text before head) → first ≡ is (bytes "MATRIX") (word_of text work head)
  told-first h first e = e ∙ ap (is (bytes "MATRIX")) (sym (word_kept text work before count t.kept head h))

  pub told-data : (r : Result State (Fault ℕ)) → Made text work work count head to s r (data_right text work count head to s b) → Made text before work count head to s r (data_right text before count head to s b)
  told-data r m = told-made text before work count head to s j t work r (data_right text work count head to s b) (data_right text before count head to s b) (rw (t.declared, t.state, t.kept)) m
