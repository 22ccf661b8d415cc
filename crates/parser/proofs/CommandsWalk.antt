-- Commands are read one after another: those that are left make of the state what all of them make of the first one. Assumes nothing.
use Rattle.std.specs.Prelude.{Ok, Err, Result}
use Prim.Native.Nat.{ℕ, ◌+◌, ◌≤◌}
use Rattle.block.specs.Blocks as B
use Rattle.block.specs.Commands.{commands}
use Rattle.block.specs.Outcome.{fold, then}
use Rattle.block.specs.Parse.{parse_behind}
use Rattle.commands.proofs.AnswerLaws.{answers-as, answers-then, answers-wider}
use Rattle.commands.specs.StateHeld.{Reader, state_of}
use Rattle.commands.specs.StatePlaced.{StatePlaced}
use Rattle.commands.specs.Stepping.{Answers, Enough, state_held}
use Rattle.commands.specs.WorkMap.{map_fits}
use Rattle.commands.specs.declared.state.Held.{Held}
use Rattle.commands.specs.declared.state.State.{State}
use Rattle.lexer.specs.Lexing.{longest}
use Rattle.lexer.specs.Stored.{range}
use Rattle.lexer.specs.declared.refusal.Refusal.{Refusal}
use Rattle.parser.proofs.StartsLaws.{range_front}
use Rattle.parser.proofs.TurnLaws.{none_left}
use Rattle.parser.specs.ParsedHeld.{parsed_held}
use Rattle.parser.specs.Turning.{BehindMade, TurnMade, commands_held}
use Rattle.lexer.specs.declared.Fault.{Fault}
use Rattle.lexer.specs.Refusals.{fault}
use lib.ListN.{length, take}
use lib.Seq.{length-take-le}
use mathlib.Core.Bool.{true}
use mathlib.Core.List.{List}
use mathlib.Core.Path.{◌≡◌, refl, ap, ◌∙◌}
use native.Mathlib.Omega.{arith}

-- Work memory stays enough where its front is kept, and tokens for which it is enough are few.
module _ (text before : List ℕ) (count : ℕ) where
  enough-kept : (after : List ℕ) → length after ≡ length before → take count after ≡ take count before → Enough text before count → Enough text after count
  enough-kept after size kept e =
      record {
        bytes = e.bytes;
        tokens = e.tokens;
        weighed = rw (range_front text after count 0 count (omega arith), kept, ← range_front text before count 0 count (omega arith)) e.weighed;
        room = rw size e.room;
      }

  enough-few : count ≤ length before → Enough text before count → length (take count before) ≤ 1048576
  unfolding longest
  enough-few l e = omega (arith, length-take-le count before l, e.bytes, e.tokens)

module _ (text before : List ℕ) (count from : ℕ) where
  pub record Walking (work : List ℕ) (s : State) (i : ℕ) : Type 0 where
    pub size : length work ≡ length before
    pub kept : take count work ≡ take count before
    pub rest : commands_held text work count s i ≡ fold B.step B.at_start (commands (range text (take count before) from count))
    pub placed : length (take count before) ≤ 1048576 → StatePlaced text (take count work) (length work) s

  pub walking_start : (s : State) → ((m : Reader) (t w : List ℕ) → state_of m t w s ≡ B.at_start) → ((t f : List ℕ) (size : ℕ) → StatePlaced t f size s) → Walking before s from
  unfolding commands_held state_held
  walking_start s e p = record { size = refl; kept = refl; rest = ap (λ x. fold B.step x (commands (range text (take count before) from count))) (e _ _ _); placed = λ few. p _ _ _ }

-- What they come to behind #NEXUS.
module _ (text before : List ℕ) (count header : ℕ) (room : count ≤ length before) (work : List ℕ) (s : State) (i : ℕ) (k : Walking text before count (header + 1) work s i) where
  pub walking-refused : (after : List ℕ) (n : Refusal) (j : ℕ) → TurnMade text work after count i s (Err (fault n j)) → BehindMade text before after count header (Err (fault n j))
  unfolding parsed_held parse_behind then
  walking-refused after n j m =
      record {
        size = m.size ∙ k.size;
        kept = m.kept ∙ k.kept;
        answer = answers-then (B.finish header) (answers-as refl k.rest (answers-wider (λ e. (enough-kept text before count work k.size k.kept e, k.placed (enough-few text before count room e))) m.turn));
        fits = λ h e. cc;
      }

  pub walking-end : (r : Result Held (Fault ℕ)) → count ≤ i
      → Answers (StatePlaced text (take count work) (length work) s) (parsed_held text work count r) (B.finish header (state_held text work count s))
      → ((h : Held) → r ≡ Ok h → map_fits (length work) count h.lines h.taxa h.characters ≡ true)
      → BehindMade text before work count header r
  unfolding parse_behind then commands_held
  walking-end r l a f =
      let all = none_left text (take count work) count (state_held text work count s) i l ∙ k.rest in
      record {
        size = k.size;
        kept = k.kept;
        answer = answers-as refl (ap (λ o. then o (B.finish header)) all) (answers-wider (λ e. k.placed (enough-few text before count room e)) a);
        fits = f;
      }
