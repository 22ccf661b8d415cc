-- The step over what was found next, and the commands behind it, make of a state what all the commands make of it. Assumes nothing.
use Rattle.std.specs.Prelude.{Ok, Err}
use Prim.Native.Nat.{ℕ, ◌≤◌, ◌<◌}
use Rattle.block.specs.Blocks as B
use Rattle.block.specs.Commands.{commands, commands_from}
use Rattle.block.specs.CommandsCut.{Within, cut_of}
use Rattle.block.specs.Outcome.{Outcome, done, fold, refused, then}
use Rattle.block.specs.declared.commands.Cut.{Cut}
use Rattle.commands.proofs.AnswerLaws.{answers-as, answers-then, answers-wider}
use Rattle.commands.specs.StateHeld.{stepped}
use Rattle.commands.specs.Stepping.{Answers, answered, short, state_held, step_held}
use Rattle.commands.specs.declared.state.State.{State}
use Rattle.lexer.proofs.RangeLaws.{range-end}
use Rattle.lexer.specs.Stored.{range}
use Rattle.lexer.specs.declared.refusal.Refusal.{Refusal}
use Rattle.parser.specs.Steps.{StepMade, cut_step}
use Rattle.parser.specs.Turning.{TurnMade, commands_held, cut_end}
use Rattle.lexer.specs.Refusals.{fault}
use lib.ListN.{take}
use mathlib.Core.Bool.{Bool, true, false, true≢false}
use mathlib.Core.List.{List}
use mathlib.Core.Path.{◌≡◌, refl, sym, ap, ◌∙◌}
use native.Mathlib.Omega.{arith}

-- A value says nothing of work memory, so it is right.
done_there : {A : Type 0} → Outcome A → Bool
done_there (done a) = true
done_there (refused n i) = false

value-right : {A enough : Type 0} (a : A) (right : Outcome A) → Answers enough (done a) right → done a ≡ right
unfolding done_there
value-right a right (answered e) = e
value-right a right (short e n) = absurd (true≢false (ap done_there e))

-- Where to go on lies further on; and what was found stands behind the front.
module _ (from count : ℕ) where
  cut-further : (cut : Cut) → Within from count cut → from < count → from < cut_end count cut
  unfolding cut_end
  cut-further Cut.None w l = l
  cut-further (Cut.Empty i) w l = omega (arith, w.0)
  cut-further (Cut.Unended i) w l = l
  cut-further (Cut.Command h e) w l = omega (arith, w.0, w.1)

  cut-within : (cut : Cut) → Within from count cut → Within 0 count cut
  cut-within Cut.None w = tt
  cut-within (Cut.Empty i) w = (omega arith, w.1)
  cut-within (Cut.Unended i) w = (omega arith, w.1)
  cut-within (Cut.Command h e) w = (omega arith, w.1, w.2)

module _ (text front : List ℕ) (count : ℕ) where
  -- No command stands behind the tokens.
  pub none_left : (s : B.State) (i : ℕ) → count ≤ i → done s ≡ fold B.step s (commands (range text front i count))
  unfolding fold commands commands_from
  none_left s i l = rw (range-end text front i count l)

  -- What was found, and then the commands behind it.
  cut-folds : (s : B.State) (cut : Cut) → fold B.step s (cut_of text front count cut) ≡ then (cut_step text front s cut) (λ t. fold B.step t (commands (range text front (cut_end count cut) count)))
  unfolding fold cut_of cut_step cut_end then B.step
  cut-folds s Cut.None = none_left s count (omega arith)
  cut-folds s (Cut.Empty i) = refl
  cut-folds s (Cut.Unended i) = refl
  cut-folds s (Cut.Command h e) = refl

  module _ (from : ℕ) (cut : Cut) (found : cut_of text front count cut ≡ commands (range text front from count)) (a : B.State) where
    all : then (cut_step text front a cut) (λ t. fold B.step t (commands (range text front (cut_end count cut) count))) ≡ fold B.step a (commands (range text front from count))
    all = sym (cut-folds a cut) ∙ ap (fold B.step a) found

    on : (b : B.State) → done b ≡ cut_step text front a cut → fold B.step b (commands (range text front (cut_end count cut) count)) ≡ fold B.step a (commands (range text front from count))
    unfolding then
    on b e = ap (λ o. then o (λ t. fold B.step t (commands (range text front (cut_end count cut) count)))) e ∙ all

    stop : {enough : Type 0} (n : Refusal) (i : ℕ) → Answers enough (refused n i) (cut_step text front a cut) → Answers enough (refused n i) (fold B.step a (commands (range text front from count)))
    unfolding then
    stop n i x = answers-as refl all (answers-then (λ t. fold B.step t (commands (range text front (cut_end count cut) count))) x)

module _ (text before after : List ℕ) (count from : ℕ) (cut : Cut) (found : cut_of text (take count before) count cut ≡ commands (range text (take count before) from count)) (within : Within from count cut) (s : State) where
  pub turn_on : (t : State) (end : ℕ) → from < count → end ≡ cut_end count cut → StepMade text before after count s cut (Ok t) → TurnMade text before after count from s (Ok (t, end))
  unfolding commands_held state_held step_held stepped
  turn_on t end l is k =
      record {
        size = k.size;
        kept = k.kept;
        turn = (rw (is, k.kept) (on text (take count before) count from cut found _ _ (rw k.kept at (value-right _ _ k.step))), rw is (cut-further from count cut within l));
        placed = λ few p. k.placed few (cut-within from count cut within) p;
      }

  pub turn-refused : (n : Refusal) (i : ℕ) → StepMade text before after count s cut (Err (fault n i)) → TurnMade text before after count from s (Err (fault n i))
  unfolding commands_held step_held stepped
  turn-refused n i k =
      record {
        size = k.size;
        kept = k.kept;
        turn = stop text (take count before) count from cut found _ n i (answers-wider (λ p. (p.0, cut-within from count cut within, p.1)) k.step);
        placed = λ few p. tt;
      }
