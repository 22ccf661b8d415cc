-- Whether a matrix may be stored, test by test; and what that gives. Assumes nothing.
use Rattle.std.specs.Prelude.{Some, None, Option}
use Prim.Native.Nat.{ℕ, ◌+◌, ◌≤◌}
use Rattle.commands.specs.StateHeld.{Reader, matrix_of}
use Rattle.commands.specs.declared.state.Data.{Data}
use Rattle.lexer.proofs.Basics.{by-test, or_left, or_right}
use Rattle.lexer.specs.Base.{given}
use Rattle.lexer.specs.Lexing.{longest}
use Rattle.parser.specs.Storing.{commands_within, names_within, none_held, storable}
use Rattle.commands.specs.declared.state.Held.{Held}
use borrow.Author.Tests.{le-leb, lt-leb, ltb-true, ltb-false}
use lib.Dec.{leb, ltb}
use mathlib.Core.Bool.{Bool, true, false, ◌&&◌, ◌||◌, not, false≢true}
use mathlib.Core.List.{List}
use mathlib.Core.Path.{◌≡◌, refl}

-- A matrix that was read is held.
pub none-held : (m : Reader) (text work : List ℕ) (matrix : Option Held) → not (given (matrix_of m text work matrix)) ≡ none_held matrix
unfolding matrix_of none_held given
none-held m text work None = refl
none-held m text work (Some h) = refl

pub none-there : (matrix : Option Held) → none_held matrix ≡ true → matrix ≡ None
unfolding none_held
none-there None e = refl
none-there (Some h) e = absurd (false≢true e)

-- None of two numbers is above the longest.
both-short : (a b : ℕ) → (ltb 1048576 a || ltb 1048576 b) ≡ false → (a ≤ 1048576) × (b ≤ 1048576)
both-short a b e =
    let x = ltb 1048576 a in
    let y = ltb 1048576 b in
    (ltb-false 1048576 a (or_left x y e), ltb-false 1048576 b (or_right x y e))

module _ (bytes size count : ℕ) (matrix : Option Held) (d : Data) (few : Bool) where
  pub storable-long : (ltb 1048576 bytes || ltb 1048576 count) ≡ true → false ≡ storable bytes size count matrix d few
  unfolding storable longest
  storable-long e =
      by-test (ltb 1048576 bytes) (λ t. let l = ltb-true 1048576 bytes t in rw (lt-leb bytes 1048576 l))
      (λ f. let l = ltb-true 1048576 count (rw f at e) in rw (lt-leb count 1048576 l, le-leb bytes 1048576 (ltb-false 1048576 bytes f)))

  pub storable-short : (a b c : Bool) → (ltb 1048576 bytes || ltb 1048576 count) ≡ false → a ≡ none_held matrix → b ≡ names_within count d.names → c ≡ commands_within count d.labels
      → (leb (count + count) size && few && a && b && c) ≡ storable bytes size count matrix d few
  unfolding storable longest
  storable-short a b c e p q r =
      let n = both-short bytes count e in
      rw (p, q, r, le-leb bytes 1048576 n.0, le-leb count 1048576 n.1)
