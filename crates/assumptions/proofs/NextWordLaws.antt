-- Where newlines end, the next word stands. Assumes nothing.
use Rattle.std.specs.Prelude as Std
use Rattle.std.specs.Prelude.{Result, Ok, Err, None, IsErrAnd}
use Rattle.std.specs.Option.{ok_or}
use Prim.Native.Nat.{ℕ, zero, suc, ◌-◌, ◌<◌}
use Rattle.assumptions.specs.NextWord.{Next, Ahead, Found}
use Rattle.block.proofs.WalkLaws.{words-newline, words-next, words-end}
use Rattle.block.specs.Commands.{newline, words}
use Rattle.block.specs.CommandsCut.{first_where}
use Rattle.lexer.proofs.Basics.{by-test}
use Rattle.lexer.specs.Base.{pick}
use Rattle.lexer.specs.Stored.{word_of, range}
use Rattle.lexer.specs.declared.Fault.{Fault}
use mathlib.Core.Bool.{not, false}
use mathlib.Core.List.{List, []}
use mathlib.Core.Path.{◌≡◌, ◌∙◌}
use native.Mathlib.Numerals.{add-one}
use native.Mathlib.Omega.{arith}

module _ (text work : List ℕ) (end : ℕ) where
  pub next_word : (n from : ℕ) → end - from ≡ n → Next text work from end (first_where (λ w. not (newline w)) text work from n)
  unfolding first_where pick
  next_word zero from e = record { onward = omega arith; here = λ h. absurd (omega (arith, e)); past = λ p. words-end text work from end p }
  next_word (suc n) from e =
      by-test (newline (word_of text work from))
      (λ t.
      let m = next_word n (suc from) (omega (arith, e)) in
      let skip = rw (add-one from) at (words-newline text work from end (omega (arith, e)) t) in
      rw t (record { onward = omega (arith, m.onward); here = λ h. skip ∙ m.here h; past = λ p. skip ∙ m.past p }))
      (λ f. rw f (record { onward = omega arith; here = λ h. words-next text work from end h f; past = λ p. absurd (omega (arith, e)) }))

-- Where there is none, the refusal that stands for it is returned.
pub absent : {T X : Type 0} {r : Std.Option X} {f g : Fault ℕ} (q : Result T (Fault ℕ)) → IsErrAnd q (λ y. y ≡ g) → Err g ≡ ok_or r f → r ≡ None → q ≡ Err f
absent (Ok a) h e is = absurd h
absent (Err y) h e is = cc

module _ {text work : List ℕ} {from end : ℕ} {r : Std.Option ℕ} (x : Ahead text work from end r) where
  pub missed : {T : Type 0} {f g : Fault ℕ} (q : Result T (Fault ℕ)) → IsErrAnd q (λ y. y ≡ g) → Err g ≡ ok_or r f → r ≡ None → (q ≡ Err f) × (words (range text work from end) ≡ [])
  missed q h e is = (absent q h e is, x.none is)

-- A word that is no newline stands where it is.
pub found_here : (text work : List ℕ) (end i : ℕ) → i < end → newline (word_of text work i) ≡ false → Found text work i end i
found_here text work end i l e = record { onward = omega arith; within = l; here = words-next text work i end l e }
