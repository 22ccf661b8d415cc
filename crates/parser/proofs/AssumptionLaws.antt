-- Steps over the commands of ASSUMPTIONS, by their tests and by what they store. Assumes nothing.
use Rattle.std.specs.Prelude.{Some, None, Err, Result, ⊤, is_some}
use Prim.Native.Nat.{ℕ, ◌+◌, ◌≤◌, ◌<◌}
use Rattle.assumptions.specs.TypesHeld.{types_held}
use Rattle.block.specs.Outcome.{outcome, Outcome, done, refused, then}
use Rattle.lexer.proofs.OptionLaws.{is-given}
use Rattle.std.proofs.Math.Bool.{not-not}
use Rattle.lexer.specs.Base.{option_of, bytes, given, pick}
use Rattle.block.specs.Blocks as B
use Rattle.block.specs.Blocks.{assumption_step, characters_in, in_assumptions, in_phase, options}
use Rattle.block.specs.Commands.{words}
use Rattle.block.specs.Judged.{judged}
use Rattle.block.specs.Typeset.{Types, typeset}
use Rattle.block.specs.declared.model.CharacterOrdering.{CharacterOrdering}
use Rattle.commands.specs.MatrixHeld.{held}
use Rattle.commands.specs.StateHeld.{Reader, set_of, state_of, stepped, types_of}
use Rattle.commands.specs.StatePlaced.{PhasePlaced, StatePlaced, SteppedPlaced, Untyped}
use Rattle.commands.specs.Stepping.{Made, answered, short, state_held, step_held}
use Rattle.commands.specs.declared.state.Phase.{Phase}
use Rattle.commands.specs.declared.state.State.{State}
use Rattle.lexer.proofs.Basics.{and_right}
use Rattle.lexer.proofs.RangeLaws.{range_front, word-front}
use Rattle.lexer.specs.Stored.{range, word_of}
use Rattle.lexer.specs.Words.{Numbered, is}
use Rattle.lexer.specs.declared.refusal.Refusal.{Refusal}
use Rattle.parser.proofs.HeldLaws.{front_kept}
use Rattle.parser.proofs.RoomLaws.{never-short, roomy}
use Rattle.parser.specs.TypesRoom.{types_room}
use Rattle.std.specs.Prelude as Std
use Rattle.lexer.specs.declared.Fault.{Fault}
use Rattle.lexer.specs.Refusals.{fault}
use Rattle.commands.specs.declared.state.Held.{Held}
use borrow.Author.Tests.{not-true}
use lib.ListN.{length, take}
use lib.Seq.{length-take-le}
use mathlib.Core.Bool.{Bool, true, false, ◌&&◌, not}
use mathlib.Core.List.{List}
use mathlib.Core.Option.{Option, some}
use mathlib.Core.Path.{◌≡◌, refl, ap, subst, ◌∙◌}
use native.Mathlib.Omega.{arith}

module _ {X Y Z : Type 0} where
  then-through : (o : Outcome X) (f : X → Y) (g : Y → Outcome Z) → then o (λ x. g (f x)) ≡ then (then o (λ x. done (f x))) g
  unfolding then
  then-through (done x) f g = refl
  then-through (refused n i) f g = refl

set_given : (m : Reader) (text work : List ℕ) (matrix : Std.Option Held) (typed : Bool) → given (set_of m text work matrix typed) ≡ typed
unfolding set_of given pick
set_given m text work matrix true = refl
set_given m text work matrix false = refl

-- In ASSUMPTIONS a placed state has a matrix without types.
untyped : (text front : List ℕ) (size : ℕ) (s : State) (phase : Phase) (b : ℕ) (default : Std.Option CharacterOrdering) (typed : Bool) → phase ≡ Phase.Assumptions b default typed → PhasePlaced text front size s phase → Untyped s.matrix
untyped text front size s phase b default typed e p = subst (PhasePlaced text front size s) e p

-- The definition's step by its tests: OPTIONS, TYPESET, any other
module _ (s : B.State) (h : Numbered) (ws : List Numbered) (b : ℕ) (default : Option CharacterOrdering) (set : Option Types) where
  step-options : is (bytes "OPTIONS") h && not (given default) ≡ true → assumption_step s h ws b default set ≡ then (options h ws) (λ o. done (in_assumptions b (some o) set))
  unfolding assumption_step pick
  step-options t = rw t

  step-typeset : is (bytes "OPTIONS") h && not (given default) ≡ false → is (bytes "TYPESET") h && not (given set) ≡ true
      → assumption_step s h ws b default set ≡ then (typeset (record { characters = characters_in s.matrix; head = h.index }) ws) (λ ts. done (in_assumptions b default (some ts)))
  unfolding assumption_step pick
  step-typeset f t = rw (f, t)

  step_other : is (bytes "OPTIONS") h && not (given default) ≡ false → is (bytes "TYPESET") h && not (given set) ≡ false → assumption_step s h ws b default set ≡ refused Refusal.Command h.index
  unfolding assumption_step pick
  step_other f g = rw (f, g)

-- Whatever the matrix, the state after a step is placed where the state before was.
abbrev PlacedAgain : State → Result State (Fault ℕ) → Type 0
PlacedAgain s x = (text front : List ℕ) (size : ℕ) → StatePlaced text front size s → Untyped s.matrix → SteppedPlaced text front size x

-- TYPESET
abbrev typeset_right : List ℕ → List ℕ → ℕ → ℕ → ℕ → State → ℕ → Std.Option CharacterOrdering → Outcome B.State
typeset_right text work count head to s b default =
    then (then (typeset (record { characters = characters_in (state_held text work count s).matrix; head = head }) (words (range text (take count work) (head + 1) to))) (λ ts. done (in_assumptions b (option_of default) (some ts))))
    (λ p. done (in_phase p (state_held text work count s)))

module _ (text before : List ℕ) (count head to : ℕ) (s : State) (b : ℕ) (default : Std.Option CharacterOrdering) (fits : count ≤ length before) (within : to ≤ count) (open_here : s.phase ≡ Phase.Assumptions b default false) where
  pub typeset-made : (after : List ℕ) (at n : ℕ) → types_room (length before) count s.matrix ≡ Some (at, n)
      → take at after ≡ take at before → length after ≡ length before
      → (j : Result ⊤ (Fault ℕ)) → judged (types_held after at n) j ≡ typeset (record { characters = n; head = head }) (words (range text before (head + 1) to))
      → (x : Result State (Fault ℕ))
      → ((m : Reader) (t w : List ℕ) → stepped m t w x ≡ then (judged (types_of m t w s.matrix) j) (λ ts. done (in_phase (in_assumptions b (option_of default) (some ts)) (state_of m t w s))))
      → PlacedAgain s x
      → Made text before after count head to s x (typeset_right text before count head to s b default)
  unfolding step_held state_held state_of in_phase
  typeset-made after at n e front size j answer x told again =
      let r = roomy text (length before) count fits s.matrix at n e in
      let kept = front_kept after before at front count r.behind in
      record {
        size = size;
        kept = kept;
        step =
            answered
            (told (held text after count) text (take count after)
            ∙ rw (r.types after (take count after), answer, r.kept after before (take count after) (take count before) front, kept, r.counted before (take count before), range_front text before count (head + 1) to within)
            (then-through (typeset (record { characters = n; head = head }) (words (range text before (head + 1) to))) (λ ts. in_assumptions b (option_of default) (some ts)) (λ p. done (in_phase p (state_held text before count s)))));
        placed = λ c p. rw (kept, size) (again text (take count before) (length before) p (untyped text (take count before) (length before) s s.phase b default false open_here p.phase));
      }

  pub typeset-short : types_room (length before) count s.matrix ≡ None → Made text before before count head to s (Err (fault Refusal.WorkMemoryShort 0)) (typeset_right text before count head to s b default)
  unfolding step_held stepped
  typeset-short e =
      record {
        size = refl;
        kept = refl;
        step = short refl (λ x. never-short text (length before) count (take count before) (length-take-le count before fits) s.matrix e x.2.matrix (untyped text (take count before) (length before) s s.phase b default false open_here x.2.phase));
        placed = λ c p. tt;
      }

-- OPTIONS, and TYPESET behind the test for OPTIONS, and any other command
abbrev assumption_right : List ℕ → List ℕ → ℕ → ℕ → ℕ → State → ℕ → Std.Option CharacterOrdering → Bool → Outcome B.State
assumption_right text work count head to s b default typed =
    then (assumption_step (state_held text work count s) (word_of text (take count work) head) (words (range text (take count work) (head + 1) to)) b (option_of default) (set_of (held text work count) text (take count work) s.matrix typed))
    (λ p. done (in_phase p (state_held text work count s)))

module _ (text work : List ℕ) (count head to : ℕ) (s : State) (b : ℕ) (default : Std.Option CharacterOrdering) (typed : Bool) (ahead : head < to) (within : to ≤ count) (open_here : s.phase ≡ Phase.Assumptions b default typed)
    (first free : Bool) (is_first : first ≡ is (bytes "OPTIONS") (word_of text work head)) (is_free : is_some default ≡ not free) where
  front : word_of text (take count work) head ≡ word_of text work head
  front = word-front text work count head (omega arith)

  -- the test for OPTIONS of the definition
  tested : (t : Bool) → first && free ≡ t → is (bytes "OPTIONS") (word_of text (take count work) head) && not (given (option_of default)) ≡ t
  tested t e = rw (front, ← is_first, is-given, is_free, not-not free) e

  pub options-made : first && free ≡ true → (a : Result CharacterOrdering (Fault ℕ)) → outcome a ≡ options (word_of text work head) (words (range text work (head + 1) to)) → (x : Result State (Fault ℕ))
      → ((m : Reader) (t w : List ℕ) → stepped m t w x ≡ then (outcome a) (λ o. done (in_phase (in_assumptions b (some o) (set_of m t w s.matrix typed)) (state_of m t w s))))
      → PlacedAgain s x
      → Made text work work count head to s x (assumption_right text work count head to s b default typed)
  unfolding step_held state_held
  options-made t a answer x told again =
      let m = held text work count in
      let w = take count work in
      let set = set_of m text w s.matrix typed in
      record {
        size = refl;
        kept = refl;
        step =
            answered
            (told m text w
            ∙ then-through (outcome a) (λ o. in_assumptions b (some o) set) (λ p. done (in_phase p (state_of m text w s)))
            ∙ rw (step-options (state_of m text w s) (word_of text w head) (words (range text w (head + 1) to)) b (option_of default) set (tested true t), front, range_front text work count (head + 1) to within, ← answer));
        placed = λ c p. again text w (length work) p (untyped text w (length work) s s.phase b default typed open_here p.phase);
      }

  -- behind that test
  module _ (other : first && free ≡ false) (second : Bool) (is_second : second ≡ is (bytes "TYPESET") (word_of text work head)) where
    tested-second : (t : Bool) → second && not typed ≡ t → is (bytes "TYPESET") (word_of text (take count work) head) && not (given (set_of (held text work count) text (take count work) s.matrix typed)) ≡ t
    tested-second t e = rw (front, ← is_second, set_given (held text work count) text (take count work) s.matrix typed) e

    pub typeset-over : second && not typed ≡ true → (after : List ℕ) (x : Result State (Fault ℕ))
        → (s.phase ≡ Phase.Assumptions b default false → Made text work after count head to s x (typeset_right text work count head to s b default))
        → Made text work after count head to s x (assumption_right text work count head to s b default typed)
    unfolding word_of
    typeset-over t after x made =
        let h = word_of text (take count work) head in
        let ws = words (range text (take count work) (head + 1) to) in
        let set = set_of (held text work count) text (take count work) s.matrix typed in
        rw (step-typeset (state_held text work count s) h ws b (option_of default) set (tested false other) (tested-second true t))
        (made (open_here ∙ ap (λ u. Phase.Assumptions b default u) (not-true typed (and_right second (not typed) t))))

    pub refused-made : second && not typed ≡ false → Made text work work count head to s (Err (fault Refusal.Command head)) (assumption_right text work count head to s b default typed)
    unfolding step_held stepped then word_of
    refused-made f =
        let h = word_of text (take count work) head in
        let ws = words (range text (take count work) (head + 1) to) in
        let set = set_of (held text work count) text (take count work) s.matrix typed in
        record {
          size = refl;
          kept = refl;
          step = answered (rw (step_other (state_held text work count s) h ws b (option_of default) set (tested false other) (tested-second false f)));
          placed = λ c p. tt;
        }
