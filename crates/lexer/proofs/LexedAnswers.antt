-- What lexing answers, in each of its cases. Assumes nothing.
use Rattle.std.specs.Prelude.{Ok, Err, Result, MatchResult}
use Rattle.std.specs.Result.{IsErrAnd}
use Prim.Native.Nat.{ℕ, ◌+◌, ◌*◌, ◌≤◌, ◌<◌}
use Rattle.lexer.proofs.Basics.{by-test}
use Rattle.lexer.specs.Base.{pick}
use Rattle.lexer.specs.Lexing.{longest, work_needed, counted, lexed}
use Rattle.lexer.specs.Places.{place, nowhere, opened}
use Rattle.lexer.specs.Stored.{Stored, walk_of, walked}
use Rattle.lexer.specs.Tokens.{tokens, left_open}
use Rattle.lexer.specs.Utf8.{utf8}
use Rattle.lexer.specs.declared.Place.{Place}
use Rattle.lexer.specs.declared.refusal.Refusal.{Refusal}
use Rattle.lexer.specs.declared.Fault.{Fault}
use Rattle.lexer.specs.Refusals.{fault}
use borrow.Author.Tests.{le-leb, lt-leb, leb-true}
use lib.Dec.{leb}
use lib.ListN.{length}
use mathlib.Core.Bool.{true, false}
use mathlib.Core.List.{List}
use mathlib.Core.Option.{Option, none, some}
use mathlib.Core.Path.{◌≡◌, refl, sym, ap, subst, ◌∙◌}
use native.Mathlib.Omega.{arith}

-- The answer that a walk over a text comes to: what `counted` says.
abbrev walk_answer : List ℕ → Result ℕ (Fault ℕ) → Result ℕ (Fault Place)
walk_answer text (Ok n) = Ok n
walk_answer text (Err f) = Err (fault f.0 (place text f.1))

walk-counted : (text : List ℕ) (o : Option Refusal) → walk_answer text (walk_of text o) ≡ counted text o
unfolding counted walk_of
walk-counted text none = refl
walk-counted text (some r) = refl

-- A count of tokens is no refusal.
never : {X : Type 0} (n : ℕ) (r : Refusal) (p : Place) → Ok n ≡ Err (fault r p) → X
never n r p e = let z : ◌≡◌ {A = ℕ} 0 1 = cc in absurd (omega arith)

-- The answer and what it says of work memory.
abbrev pub Answered : List ℕ → List ℕ → ℕ → Result ℕ (Fault Place) → Type 0
Answered text work k r = record { answer : r ≡ lexed text k; stored : (n : ℕ) → r ≡ Ok n → Stored text work n }

refused : (text work : List ℕ) (k : ℕ) (r : Refusal) (p q : Place) → p ≡ q → Err (fault r q) ≡ lexed text k → Answered text work k (Err (fault r p))
refused text work k r p q e a = record { answer = rw e a; stored = λ n h. never n r p (sym h) }

module _ (text work : List ℕ) (k : ℕ) where
  pub answer-long : (p : Place) → p ≡ nowhere → 1048576 < length text → Answered text work k (Err (fault Refusal.TextTooLong p))
  unfolding lexed longest pick
  answer-long p e h = refused text work k Refusal.TextTooLong p nowhere e (rw (lt-leb (length text) 1048576 h))

  module _ (fits : length text ≤ 1048576) where
    pub answer-short : (p : Place) → p ≡ nowhere → k < 4 * length text + 64 → Answered text work k (Err (fault Refusal.WorkMemoryShort p))
    unfolding lexed longest work_needed pick
    answer-short p e h = refused text work k Refusal.WorkMemoryShort p nowhere e (rw (le-leb (length text) 1048576 fits, lt-leb (4 * length text + 64) k h))

    module _ (room : 4 * length text + 64 ≤ k) where
      pub answer-invalid : (p : Place) → p ≡ nowhere → utf8 text ≡ false → Answered text work k (Err (fault Refusal.NotUtf8 p))
      unfolding lexed longest work_needed pick
      answer-invalid p e h = refused text work k Refusal.NotUtf8 p nowhere e (rw (le-leb (length text) 1048576 fits, le-leb (4 * length text + 64) k room, h))

      module _ (valid : utf8 text ≡ true) where
        answer-valid : counted text (left_open (tokens text)) ≡ lexed text k
        unfolding lexed longest work_needed pick
        answer-valid = rw (le-leb (length text) 1048576 fits, le-leb (4 * length text + 64) k room, valid)

        answer-walk : (w : Result ℕ (Fault ℕ)) → w ≡ walked text → walk_answer text w ≡ lexed text k
        unfolding walked
        answer-walk w e = ap (walk_answer text) e ∙ walk-counted text (left_open (tokens text)) ∙ answer-valid

        answer-tokens : (n : ℕ) → Ok n ≡ walked text → Stored text work n → Answered text work k (Ok n)
        answer-tokens n w s = record { answer = answer-walk (Ok n) w; stored = λ m h. let e : n ≡ m = cc in subst (λ m. Stored text work m) e s }

        answer-open : (r : Refusal) (mark : ℕ) (p : Place) → Err (fault r mark) ≡ walked text → p ≡ place text mark → Answered text work k (Err (fault r p))
        answer-open r mark p w e = refused text work k r p (place text mark) e (answer-walk (Err (fault r mark)) w)

        -- what is made of the walk's answer
        module _ (P : Fault ℕ → Fault Place → Type 0) where
          pub answer-mapped : (w : Result ℕ (Fault ℕ)) (r : Result ℕ (Fault Place)) → ((f : Fault ℕ) (g : Fault Place) → P f g → g ≡ fault f.0 (place text f.1))
              → MatchResult w (λ n. r ≡ Ok n) (λ f. IsErrAnd r (P f)) → w ≡ walked text → ((n : ℕ) → w ≡ Ok n → Stored text work n) → Answered text work k r
          answer-mapped (Ok n) r at e a s = rw e (answer-tokens n a (s n refl))
          answer-mapped (Err f) (Ok n) at e a s = absurd e
          answer-mapped (Err f) (Err g) at e a s = rw (at f g e) (answer-open f.0 f.1 (place text f.1) a refl)

-- A text that is answered with a count is short and UTF-8, has work memory enough, and leaves nothing open.
pub record Lexes (text : List ℕ) (k : ℕ) : Type 0 where
  pub short : length text ≤ 1048576
  pub room : 4 * length text + 64 ≤ k
  pub valid : utf8 text ≡ true
  pub closed : left_open (tokens text) ≡ none

counted-closed : (text : List ℕ) (n : ℕ) (o : Option Refusal) → Ok n ≡ counted text o → o ≡ none
unfolding counted
counted-closed text n none e = refl
counted-closed text n (some r) e = never n r (place text (opened text)) e

pub tokens-lexed : (text : List ℕ) (k n : ℕ) → Ok n ≡ lexed text k → Lexes text k
unfolding lexed longest work_needed pick
tokens-lexed text k n e =
    by-test (leb (length text) 1048576)
    (λ fits. by-test (leb (4 * length text + 64) k)
    (λ room. by-test (utf8 text)
    (λ valid. record { short = leb-true _ _ fits; room = leb-true _ _ room; valid = valid; closed = counted-closed text n _ (rw (fits, room, valid) at e) })
    (λ invalid. never n Refusal.NotUtf8 nowhere (rw (fits, room, invalid) at e)))
    (λ little. never n Refusal.WorkMemoryShort nowhere (rw (fits, little) at e)))
    (λ long. never n Refusal.TextTooLong nowhere (rw long at e))
