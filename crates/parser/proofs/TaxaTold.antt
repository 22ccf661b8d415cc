-- TAXLABELS, whose words are judged with a table behind the tokens: a state that holds no matrix means the same whatever stands there, and so does
-- what a step is promised to be. Assumes nothing.
use Rattle.std.specs.Prelude.{None, Ok, Option, Result, ⊤}
use Prim.Native.Nat.{ℕ, ◌+◌, ◌≤◌, ◌<◌}
use Rattle.block.specs.Blocks as B
use Rattle.block.specs.Blocks.{in_phase, taxa_step}
use Rattle.block.specs.Commands.{words}
use Rattle.block.specs.NamesKept.{NamesJudged}
use Rattle.block.specs.Outcome.{Outcome, done, then}
use Rattle.commands.proofs.AnswerLaws.{answers-as, answers-wider}
use Rattle.commands.specs.MatrixHeld.{held}
use Rattle.commands.specs.StateHeld.{Reader, data_of, matrix_of, names_in, phase_of, set_of, state_of, stepped, types_of}
use Rattle.commands.specs.StatePlaced.{CommandPlaced, StatePlaced, SteppedPlaced}
use Rattle.commands.specs.Stepping.{Enough, Made, state_held, step_held}
use Rattle.commands.specs.declared.state.Data.{Data}
use Rattle.commands.specs.declared.state.Phase.{Phase}
use Rattle.commands.specs.declared.state.State.{State}
use Rattle.lexer.proofs.Basics.{by-test, not-both}
use Rattle.lexer.proofs.RangeLaws.{range-kept}
use Rattle.lexer.specs.Base.{bytes}
use Rattle.lexer.specs.Stored.{range, word_of}
use Rattle.lexer.specs.Words.{is}
use Rattle.parser.proofs.MadeLaws.{kept-made}
use Rattle.parser.proofs.StartsLaws.{range_front, word-front}
use Rattle.parser.specs.TaxaTold.{FreeFrom, TaxaTold}
use Rattle.lexer.specs.declared.Fault.{Fault}
use Rattle.commands.specs.declared.state.Held.{Held}
use borrow.Author.Tests.{ltb-true, ltb-false}
use lib.Dec.{ltb}
use lib.ListN.{length, take}
use lib.Seq.{take_all, take-take}
use mathlib.Core.Bool.{Bool, false}
use mathlib.Core.List.{List}
use mathlib.Core.Path.{◌≡◌, refl, sym, ap, ◌∙◌}
use native.Mathlib.Omega.{arith}

-- What a state means that holds no matrix does not depend on how one reads.
module _ (m n : Reader) (text front : List ℕ) where
  matrix-unread : (matrix : Option Held) → matrix ≡ None → matrix_of m text front matrix ≡ matrix_of n text front matrix
  unfolding matrix_of
  matrix-unread matrix e = rw e

  data-unread : (d : Data) → d.matrix ≡ None → data_of m text front d ≡ data_of n text front d
  unfolding data_of
  data-unread d f = rw (matrix-unread d.matrix f)

  phase-unread : (d : Data) (matrix : Option Held) (p : Phase) → matrix ≡ None → d.matrix ≡ None → phase_of m text front d matrix p ≡ phase_of n text front d matrix p
  unfolding phase_of set_of types_of
  phase-unread d matrix Phase.Outside e f = refl
  phase-unread d matrix (Phase.Taxa b k names) e f = refl
  phase-unread d matrix (Phase.Data b) e f = rw (data-unread d f)
  phase-unread d matrix (Phase.Assumptions b default typed) e f = rw e
  phase-unread d matrix (Phase.Trees b) e f = refl

  state-unread : (s : State) → s.matrix ≡ None → s.«data».matrix ≡ None → state_of m text front s ≡ state_of n text front s
  unfolding state_of
  state-unread s e f = rw (phase-unread s.«data» s.matrix s.phase e f, matrix-unread s.matrix e)

module _ (text before : List ℕ) (count head to : ℕ) (s : State) (ahead : head < to) (within : to ≤ count) (tested : Bool) (is_tested : tested ≡ is (bytes "TAXLABELS") (word_of text before head)) where
  -- A command that is not TAXLABELS.
  pub other-told : tested ≡ false → TaxaTold text before before count head to s (Ok tt)
  other-told f =
      record {
        size = refl;
        kept = refl;
        state = refl;
        declared = refl;
        taxa = record { right = λ t. not-both (sym is_tested ∙ f) (ap (is (bytes "TAXLABELS")) (word-front text before count head (omega arith)) ∙ t) };
      }

module _ (text before after : List ℕ) (count head to : ℕ) (s : State) (r : Result ⊤ (Fault ℕ)) (within : to ≤ count) (at : ℕ) (free : FreeFrom (length before) count s at)
    (k : NamesJudged text before after (head + 1) to at r) where
  front : take count after ≡ take count before
  front = sym (take-take count at after free.behind) ∙ ap (take count) k.front ∙ take-take count at before free.behind

  same-all : length before ≤ at → after ≡ before
  same-all l = sym (take_all at after (omega (arith, k.size))) ∙ k.front ∙ take_all at before l

  means : state_held text after count s ≡ state_held text before count s
  unfolding state_held
  means =
      by-test (ltb at (length before))
      (λ e. let none = free.unread (ltb-true at (length before) e) in rw front (state-unread (held text after count) (held text before count) text (take count before) s none.0 none.1))
      (λ e. rw (same-all (ltb-false at (length before) e)))

  declares : data_of (held text after count) text (take count after) s.«data» ≡ data_of (held text before count) text (take count before) s.«data»
  declares =
      by-test (ltb at (length before))
      (λ e. rw front (data-unread (held text after count) (held text before count) text (take count before) s.«data» (free.unread (ltb-true at (length before) e)).1))
      (λ e. rw (same-all (ltb-false at (length before) e)))

  -- TAXLABELS.
  pub names-told : TaxaTold text before after count head to s r
  names-told =
      let same : range text before (head + 1) to ≡ range text (take count after) (head + 1) to = range_front text before count (head + 1) to within ∙ ap (λ (l : List ℕ). range text l (head + 1) to) (sym front) in
      record { size = k.size; kept = front; state = means; declared = declares; taxa = record { right = λ t. rw same at k.names } }

-- The step over the command, with the judgement.
module _ (text before work : List ℕ) (count head to : ℕ) (s : State) (j : Result ⊤ (Fault ℕ)) (t : TaxaTold text before work count head to s j) where
  enough-told : Enough text before count → Enough text work count
  enough-told e = record { bytes = e.bytes; tokens = e.tokens; weighed = rw (range-kept text work before count t.kept 0 count (omega arith)) e.weighed; room = rw t.size e.room }

  pub told-made : (after : List ℕ) (r : Result State (Fault ℕ)) (said right : Outcome B.State) → said ≡ right → Made text work after count head to s r said → Made text before after count head to s r right
  told-made after r said right e m =
      let command : CommandPlaced (take count before) head to → CommandPlaced (take count work) head to = λ p. rw t.kept p in
      let state : StatePlaced text (take count before) (length before) s → StatePlaced text (take count work) (length work) s = λ p. rw (t.kept, t.size) p in
      record {
        size = m.size ∙ t.size;
        kept = m.kept ∙ t.kept;
        step = answers-wider (λ p. (enough-told p.0, command p.1, state p.2)) (answers-as refl e m.step);
        placed = λ p q. m.placed (command p) (state q);
      }

  -- A command of TAXA.
  module _ (b n : ℕ) (names : Option (ℕ × ℕ)) (r : Result State (Fault ℕ)) where
    abbrev taxa_right : List ℕ → Outcome B.State
    taxa_right w = then (taxa_step (word_of text (take count w) head) (words (range text (take count w) (head + 1) to)) b n (names_in text (take count w) names)) (λ p. done (in_phase p (state_held text w count s)))

    module _ (step : (m : Reader) → stepped m text (take count work) r
        ≡ then (taxa_step (word_of text (take count work) head) (words (range text (take count work) (head + 1) to)) b n (names_in text (take count work) names)) (λ p. done (in_phase p (state_of m text (take count work) s)))) where
      taxa-said : step_held text work count r ≡ taxa_right work
      unfolding step_held state_held
      taxa-said = step (held text work count)

      pub taxa-made : ((size : ℕ) → CommandPlaced (take count work) head to → StatePlaced text (take count work) size s → SteppedPlaced text (take count work) size r)
          → Made text before work count head to s r (taxa_right before)
      taxa-made placed = told-made work r (taxa_right work) (taxa_right before) (rw (t.state, t.kept)) (kept-made text work count head to s r taxa-said (placed (length work)))
