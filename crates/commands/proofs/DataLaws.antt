-- Steps of a data block by their tests, one case at a time. Assumes nothing.
use Prim.Native.Nat.{ℕ}
use Rattle.block.specs.Blocks.{Data, State, outside, in_data, in_phase, data_command, data_end, data_step}
use Rattle.block.specs.Outcome.{Outcome, done, refused, then}
use Rattle.block.specs.Reading.{Reading}
use Rattle.commands.proofs.AnswerLaws.{answers-as, answers-then}
use Rattle.commands.specs.Stepping.{Answers}
use Rattle.lexer.specs.Base.{given, pick}
use Rattle.lexer.specs.Words.{Numbered}
use Rattle.lexer.specs.declared.refusal.Refusal.{Refusal}
use mathlib.Core.Bool.{true, false, not, true≢false, false≢true}
use mathlib.Core.List.{List}
use mathlib.Core.Option.{Option, none, some}
use mathlib.Core.Path.{◌≡◌, refl}

module _ (h : Numbered) (raw : List Numbered) (b : ℕ) (d : Data) (s : State) where
  -- Behind the matrix there is no command.
  pub step-behind : given d.matrix ≡ true → refused Refusal.Command h.index ≡ then (data_step h raw b d) (λ p. done (in_phase p s))
  unfolding data_step pick then
  step-behind e = rw e

  in-state : (o : Outcome Data) → then o (λ x. done (in_phase (in_data b x) s)) ≡ then (then o (λ x. done (in_data b x))) (λ p. done (in_phase p s))
  unfolding then
  in-state (done x) = refl
  in-state (refused n i) = refl

  -- A command gives the data of the block that is open.
  pub step-open : {enough : Type 0} {answer : Outcome Data} {said : Outcome State} → given d.matrix ≡ false → Answers enough answer (data_command d h raw)
      → said ≡ then answer (λ x. done (in_phase (in_data b x) s)) → Answers enough said (then (data_step h raw b d) (λ p. done (in_phase p s)))
  unfolding data_step pick
  step-open e a o = rw e (answers-as o (in-state (data_command d h raw)) (answers-then (λ x. done (in_phase (in_data b x) s)) a))

-- The end of the block, without a matrix and with one.
module _ (s : State) (b : ℕ) where
  pub end-absent : (matrix : Option Reading) → not (given matrix) ≡ true → refused Refusal.Absent b ≡ data_end s b matrix
  unfolding data_end given
  end-absent none e = refl
  end-absent (some r) e = absurd (false≢true e)

  pub end_read : (matrix : Option Reading) → not (given matrix) ≡ false → done (record { phase = outside; taxa = s.taxa; matrix = matrix; assumptions = s.assumptions }) ≡ data_end s b matrix
  unfolding data_end given
  end_read none e = absurd (true≢false e)
  end_read (some r) e = refl
