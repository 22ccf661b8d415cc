-- The step over what was found next: nothing, a fault, or a command that stands among the tokens. Assumes nothing.
use Rattle.std.specs.Prelude.{Ok, Err, Result}
use Prim.Native.Nat.{ℕ, ◌+◌, ◌≤◌, ◌<◌}
use Rattle.block.specs.Blocks as B
use Rattle.block.specs.Commands.{command}
use Rattle.block.specs.declared.commands.Cut.{Cut}
use Rattle.commands.proofs.AnswerLaws.{answers-wider}
use Rattle.commands.specs.StateHeld.{stepped}
use Rattle.commands.specs.StatePlaced.{CommandPlaced}
use Rattle.commands.specs.Stepping.{Enough, Made, answered, short, state_held, step_held}
use Rattle.commands.specs.declared.state.State.{State}
use Rattle.lexer.proofs.Basics.{not-both, or-both}
use Rattle.lexer.specs.Lexing.{longest}
use Rattle.lexer.specs.Stored.{range, word_of}
use Rattle.lexer.specs.declared.refusal.Refusal.{Refusal}
use Rattle.parser.specs.Steps.{StepMade, cut_step}
use Rattle.lexer.specs.declared.Fault.{Fault}
use Rattle.lexer.specs.Refusals.{fault}
use borrow.Author.Tests.{le-ltb, lt-leb}
use lib.Dec.{leb, ltb}
use lib.ListN.{length, take}
use lib.Seq.{length-take-le}
use mathlib.Core.Bool.{true, ◌||◌}
use mathlib.Core.List.{List}
use mathlib.Core.Path.{◌≡◌, refl, sym, subst}
use native.Mathlib.Omega.{arith}

module _ (text work : List ℕ) (count : ℕ) (s : State) (cut : Cut) where
  pub none_made : cut ≡ Cut.None → StepMade text work work count s cut (Ok s)
  unfolding step_held state_held stepped cut_step
  none_made e = subst (λ k. StepMade text work work count s k (Ok s)) (sym e) (record { size = refl; kept = refl; step = answered refl; placed = λ few w p. p })

  pub empty-made : (i : ℕ) → cut ≡ Cut.Empty i → StepMade text work work count s cut (Err (fault Refusal.EmptyCommand i))
  unfolding step_held stepped cut_step B.step
  empty-made i e = subst (λ k. StepMade text work work count s k (Err (fault Refusal.EmptyCommand i))) (sym e) (record { size = refl; kept = refl; step = answered refl; placed = λ few w p. tt })

  pub unended-made : (i : ℕ) → cut ≡ Cut.Unended i → StepMade text work work count s cut (Err (fault Refusal.UnendedCommand i))
  unfolding step_held stepped cut_step B.step
  unended-made i e = subst (λ k. StepMade text work work count s k (Err (fault Refusal.UnendedCommand i))) (sym e) (record { size = refl; kept = refl; step = answered refl; placed = λ few w p. tt })

  -- A command from an index up to another, which must stand in order among the tokens.
  module _ (h e : ℕ) (found : cut ≡ Cut.Command h e) where
    pub apart-made : leb e h || ltb count e ≡ true → StepMade text work work count s cut (Err (fault Refusal.WorkMemoryShort 0))
    unfolding step_held stepped
    apart-made t =
        subst (λ k. StepMade text work work count s k (Err (fault Refusal.WorkMemoryShort 0))) (sym found)
        (record {
          size = refl;
          kept = refl;
          step = short refl (λ q. not-both (or-both (lt-leb e h q.1.1) (le-ltb count e (omega (arith, q.1.2)))) t);
          placed = λ few w p. tt;
        })

    within : count ≤ length work → length (take count work) ≤ 1048576 → h < e → e < count → CommandPlaced (take count work) h e
    within fits few a b = record { ahead = a; within = omega (arith, length-take-le count work fits); few = few }

    enough-few : count ≤ length work → Enough text work count → length (take count work) ≤ 1048576
    unfolding longest
    enough-few fits q = omega (arith, length-take-le count work fits, q.bytes, q.tokens)

    pub command-made : count ≤ length work → (after : List ℕ) (r : Result State (Fault ℕ))
        → Made text work after count h e s r (B.step (state_held text work count s) (command (word_of text (take count work) h) (range text (take count work) (h + 1) e)))
        → StepMade text work after count s cut r
    unfolding cut_step
    command-made fits after r made =
        subst (λ k. StepMade text work after count s k r) (sym found)
        (record {
          size = made.size;
          kept = made.kept;
          step = answers-wider (λ q. (q.0, within fits (enough-few fits q.0) q.1.1 q.1.2, q.2)) made.step;
          placed = λ few w p. made.placed (within fits few w.1 w.2) p;
        })
