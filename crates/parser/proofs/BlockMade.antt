-- A command: outside of a block it begins one, and in a block it ends it or not. Assumes nothing.
use Rattle.std.specs.Prelude.{Err, Option, Result}
use Prim.Native.Nat.{ℕ, ◌+◌, ◌≤◌, ◌<◌}
use Rattle.block.specs.Blocks as B
use Rattle.block.specs.Blocks.{begin_words, block_step, end_block, ends, in_phase, inner_step, is_outside}
use Rattle.block.specs.Commands.{command, words}
use Rattle.block.specs.Outcome.{Outcome, done, refused, then}
use Rattle.commands.specs.MatrixHeld.{held}
use Rattle.commands.specs.StateHeld.{Reader, Retypes, phase_of, state_of, stepped}
use Rattle.commands.specs.StatePlaced.{StatePlaced, SteppedPlaced}
use Rattle.commands.specs.Stepping.{Made, state_held, step_held}
use Rattle.commands.specs.declared.state.Data.{Data}
use Rattle.commands.specs.declared.state.State.{State}
use Rattle.lexer.specs.Base.{bytes, is_empty, pick}
use Rattle.lexer.specs.Stored.{range, word_of}
use Rattle.lexer.specs.Words.{Numbered, is}
use Rattle.lexer.specs.declared.refusal.Refusal.{Refusal}
use Rattle.parser.proofs.HeldLaws.{held-retypes}
use Rattle.parser.proofs.MadeLaws.{kept-made, made_as}
use Rattle.parser.proofs.StartsLaws.{range_front, word-front}
use Rattle.lexer.specs.declared.Fault.{Fault}
use Rattle.lexer.specs.Refusals.{fault}
use Rattle.commands.specs.declared.state.Held.{Held}
use lib.ListN.{length, take}
use mathlib.Core.Bool.{Bool, true, false, ◌||◌}
use mathlib.Core.List.{List, [], ◌∷◌}
use mathlib.Core.Path.{◌≡◌, sym, ap, ◌∙◌}
use native.Mathlib.Omega.{arith}

-- The definition's step by its tests.
module _ (s : B.State) (h : Numbered) (raw : List Numbered) where
  block-ended : ends h ≡ true → words raw ≡ [] → end_block s s.phase ≡ block_step s h raw
  unfolding block_step pick is_empty
  block-ended e n = rw (e, n)

  block_more : ends h ≡ true → (w : Numbered) (ws : List Numbered) → words raw ≡ w ∷ ws → refused Refusal.WordsAfterEnd h.index ≡ block_step s h raw
  unfolding block_step pick is_empty
  block_more e w ws n = rw (e, n)

  block-inner : ends h ≡ false → then (inner_step s h raw s.phase) (λ p. done (in_phase p s)) ≡ block_step s h raw
  unfolding block_step pick
  block-inner e = rw e

  step-top : is_outside s.phase ≡ true → begin_words s h (words raw) ≡ B.step s (command h raw)
  unfolding B.step pick
  step-top e = rw e

  step-inner : is_outside s.phase ≡ false → block_step s h raw ≡ B.step s (command h raw)
  unfolding B.step pick
  step-inner e = rw e

-- What the steps come to.
abbrev block_right : List ℕ → List ℕ → ℕ → ℕ → ℕ → State → Outcome B.State
block_right text work count head to s = block_step (state_held text work count s) (word_of text (take count work) head) (range text (take count work) (head + 1) to)

abbrev command_right : List ℕ → List ℕ → ℕ → ℕ → ℕ → State → Outcome B.State
command_right text work count head to s = B.step (state_held text work count s) (command (word_of text (take count work) head) (range text (take count work) (head + 1) to))

-- In a block.
module _ (text work : List ℕ) (count head to : ℕ) (s : State) (ahead : head < to) (within : to ≤ count)
    (one two : Bool) (is_one : one ≡ is (bytes "END") (word_of text work head)) (is_two : two ≡ is (bytes "ENDBLOCK") (word_of text work head)) where
  front : word_of text (take count work) head ≡ word_of text work head
  front = sym (word-front text work count head (omega arith))

  tested : (t : Bool) → one || two ≡ t → ends (word_of text (take count work) head) ≡ t
  unfolding ends
  tested t e = rw (front, ← is_one, ← is_two) e

  worded : (ws : List Numbered) → words (range text work (head + 1) to) ≡ ws → words (range text (take count work) (head + 1) to) ≡ ws
  worded ws e = ap words (sym (range_front text work count (head + 1) to within)) ∙ e

  pub more-made : one || two ≡ true → (w : Numbered) (ws : List Numbered) → words (range text work (head + 1) to) ≡ w ∷ ws
      → Made text work work count head to s (Err (fault Refusal.WordsAfterEnd head)) (block_right text work count head to s)
  unfolding step_held stepped word_of
  more-made e w ws n =
      kept-made text work count head to s (Err (fault Refusal.WordsAfterEnd head))
      (block_more (state_held text work count s) (word_of text (take count work) head) (range text (take count work) (head + 1) to) (tested true e) w ws (worded (w ∷ ws) n)) (λ k p. tt)

  pub ended-made : one || two ≡ true → words (range text work (head + 1) to) ≡ [] → (r : Result State (Fault ℕ))
      → ((m : Reader) → Retypes m → stepped m text (take count work) r ≡ end_block (state_of m text (take count work) s) (phase_of m text (take count work) s.«data» s.matrix s.phase))
      → ((size : ℕ) → StatePlaced text (take count work) size s → SteppedPlaced text (take count work) size r)
      → Made text work work count head to s r (block_right text work count head to s)
  unfolding step_held state_held state_of
  ended-made e n r step placed =
      kept-made text work count head to s r
      (step (held text work count) (held-retypes text work count)
      ∙ block-ended (state_held text work count s) (word_of text (take count work) head) (range text (take count work) (head + 1) to) (tested true e) (worded [] n))
      (λ k p. placed (length work) p)

  pub inner_made : one || two ≡ false → (after : List ℕ) (r : Result State (Fault ℕ))
      → Made text work after count head to s r
      (then (inner_step (state_held text work count s) (word_of text (take count work) head) (range text (take count work) (head + 1) to) (phase_of (held text work count) text (take count work) s.«data» s.matrix s.phase))
      (λ p. done (in_phase p (state_held text work count s))))
      → Made text work after count head to s r (block_right text work count head to s)
  unfolding state_held state_of
  inner_made e after r made =
      made_as text work after count head to s r (block-inner (state_held text work count s) (word_of text (take count work) head) (range text (take count work) (head + 1) to) (tested false e)) made

-- By whether a block is open.
module _ (text work : List ℕ) (count head to : ℕ) (s : State) (top : Bool) (is_top : (m : Reader) (t w : List ℕ) (d : Data) (matrix : Option Held) → top ≡ is_outside (phase_of m t w d matrix s.phase)) where
  outside-tested : (t : Bool) → top ≡ t → is_outside (state_held text work count s).phase ≡ t
  unfolding state_held state_of
  outside-tested t e = sym (is_top (held text work count) text (take count work) s.«data» s.matrix) ∙ e

  pub top-made : top ≡ true → (r : Result State (Fault ℕ))
      → ((m : Reader) → stepped m text (take count work) r ≡ begin_words (state_of m text (take count work) s) (word_of text (take count work) head) (words (range text (take count work) (head + 1) to)))
      → ((size : ℕ) → StatePlaced text (take count work) size s → SteppedPlaced text (take count work) size r)
      → Made text work work count head to s r (command_right text work count head to s)
  unfolding step_held state_held
  top-made e r step placed =
      kept-made text work count head to s r
      (step (held text work count) ∙ step-top (state_held text work count s) (word_of text (take count work) head) (range text (take count work) (head + 1) to) (outside-tested true e))
      (λ k p. placed (length work) p)

  pub open_made : top ≡ false → (after : List ℕ) (r : Result State (Fault ℕ)) → Made text work after count head to s r (block_right text work count head to s) → Made text work after count head to s r (command_right text work count head to s)
  open_made e after r made =
      made_as text work after count head to s r (step-inner (state_held text work count s) (word_of text (take count work) head) (range text (take count work) (head + 1) to) (outside-tested false e)) made
