-- A text by the first of its tokens that is no newline: it must be #NEXUS, and the commands stand behind it. Assumes nothing.
use Rattle.std.specs.Prelude.{Err, Result}
use Prim.Native.Nat.{ℕ, zero, suc, ◌+◌, ◌-◌, ◌≤◌, ◌<◌}
use Rattle.block.proofs.CutLaws.{first_stops}
use Rattle.block.specs.Commands.{newline}
use Rattle.block.specs.CommandsCut.{first_where}
use Rattle.block.specs.Outcome.{refused}
use Rattle.block.specs.Parse.{parse_behind, parse_from}
use Rattle.commands.proofs.AnswerLaws.{answers-as}
use Rattle.commands.specs.Stepping.{answered, short}
use Rattle.lexer.proofs.Basics.{by-test}
use Rattle.lexer.proofs.RangeLaws.{range-end, range-next}
use Rattle.lexer.specs.Base.{bytes, pick}
use Rattle.lexer.specs.Lexing.{work_needed}
use Rattle.lexer.specs.Stored.{range, word_of, words_of}
use Rattle.lexer.specs.Words.{is}
use Rattle.lexer.specs.declared.refusal.Refusal.{Refusal}
use Rattle.parser.proofs.StartsLaws.{range_front}
use Rattle.parser.specs.ParsedHeld.{parsed_held}
use Rattle.parser.specs.Steps.{ParseMade}
use Rattle.parser.specs.Turning.{BehindMade}
use Rattle.lexer.specs.declared.Fault.{Fault}
use Rattle.lexer.specs.Refusals.{fault}
use Rattle.commands.specs.declared.state.Held.{Held}
use borrow.Author.Tests.{not-true}
use lib.ListN.{length}
use mathlib.Core.Bool.{Bool, true, false, not}
use mathlib.Core.List.{List}
use mathlib.Core.Path.{◌≡◌, refl, sym, ◌∙◌}
use native.Mathlib.Omega.{arith}

module _ (text work : List ℕ) (count : ℕ) where
  -- Newlines before the header are passed.
  header-from : (n i : ℕ) → count - i ≡ n → parse_from count (words_of text work i n) ≡ parse_from count (range text work (first_where (λ w. not (newline w)) text work i n) count)
  unfolding words_of parse_from first_where range pick
  header-from zero i e = rw e refl
  header-from (suc n) i e =
      by-test (newline (word_of text work i)) (λ p. rw p (header-from n (suc i) (omega arith))) (λ p. rw (p, e, p) refl)

  module _ (h : ℕ) (e : h ≡ first_where (λ w. not (newline w)) text work 0 (count - 0)) where
    at-header : parse_from count (range text work 0 count) ≡ parse_from count (range text work h count)
    unfolding range
    at-header = rw e (header-from (count - 0) 0 refl)

    pub no_header : count ≤ h → refused Refusal.NoNexus count ≡ parse_from count (range text work 0 count)
    unfolding parse_from
    no_header l = sym (at-header ∙ rw (range-end text work h count l) refl)

    module _ (l : h < count) where
      no-newline : newline (word_of text work h) ≡ false
      no-newline =
          let s = first_stops (λ w. not (newline w)) text work (count - 0) 0 in
          not-true (newline (word_of text work h)) (rw (← e) at (s.passes (rw (← e) (omega (arith, l)))))

      -- by the answer of the test
      module _ (there : Bool) (told : there ≡ is (bytes "#NEXUS") (word_of text work h)) where
        pub other-header : there ≡ false → refused Refusal.NoNexus h ≡ parse_from count (range text work 0 count)
        unfolding parse_from pick word_of
        other-header f = sym (at-header ∙ rw (range-next text work h count l, no-newline, ← told, f) refl)

        pub behind-header : there ≡ true → parse_behind h (range text work (h + 1) count) ≡ parse_from count (range text work 0 count)
        unfolding parse_from pick word_of
        behind-header t = sym (at-header ∙ rw (range-next text work h count l, no-newline, ← told, t) refl)

module _ (text before : List ℕ) (count : ℕ) where
  -- Work memory that does not hold so many tokens is not enough.
  pub parse-short : length before < count → ParseMade text before before count (Err (fault Refusal.WorkMemoryShort 0))
  unfolding parsed_held work_needed
  parse-short l = record { size = refl; kept = refl; answer = short refl (λ e. absurd (omega (arith, l, e.tokens, e.room))); fits = λ h e. cc }

  pub parse-refused : (n : Refusal) (i : ℕ) → refused n i ≡ parse_from count (range text before 0 count) → ParseMade text before before count (Err (fault n i))
  unfolding parsed_held
  parse-refused n i e = record { size = refl; kept = refl; answer = answered e; fits = λ h e. cc }

  pub parse-read : (after : List ℕ) (h : ℕ) (r : Result Held (Fault ℕ)) → parse_behind h (range text before (h + 1) count) ≡ parse_from count (range text before 0 count) → BehindMade text before after count h r → ParseMade text before after count r
  parse-read after h r e k = record { size = k.size; kept = k.kept; answer = answers-as refl (rw (range_front text before count (h + 1) count (omega arith)) at e) k.answer; fits = k.fits }
