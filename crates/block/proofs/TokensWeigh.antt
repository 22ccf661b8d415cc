-- The words of a text, by work memory that holds where its tokens begin, weigh no more than the text has bytes; and they are no more than
-- these. Assumes nothing.
use Prim.Native.Nat.{ℕ, suc, ◌≤◌}
use Rattle.block.proofs.Weights.{numbered-weights}
use Rattle.block.specs.Weights.{weights}
use Rattle.lexer.proofs.Basics.{by-test}
use Rattle.lexer.proofs.RangeLaws.{range-stored}
use Rattle.lexer.proofs.TokenSizes.{tokens-small}
use Rattle.lexer.specs.Base.{pick}
use Rattle.lexer.specs.Classes.{symbol}
use Rattle.lexer.specs.Places.{starts_from, starts, first_byte}
use Rattle.lexer.specs.Stored.{Stored, range}
use Rattle.lexer.specs.Tokens.{next, begins, marked, unmarked, tokens, left_open}
use Rattle.lexer.specs.declared.Mode.{Mode}
use lib.ListN.{length}
use mathlib.Core.List.{List, [], ◌∷◌}
use mathlib.Core.Option.{none}
use mathlib.Core.Path.{◌≡◌}
use native.Mathlib.Omega.{arith}

-- A text without its byte order mark is no longer than with it.
unmarked-short : (text : List ℕ) → length (unmarked text) ≤ length text
unfolding unmarked pick
unmarked-short [] = omega arith
unmarked-short (a ∷ []) = omega arith
unmarked-short (a ∷ b ∷ []) = omega arith
unmarked-short (a ∷ b ∷ c ∷ r) = by-test (marked (a ∷ b ∷ c ∷ r)) (λ e. rw e (omega arith)) (λ e. rw e (omega arith))

-- Each token begins at a byte of its own.
starts-few : (r : List ℕ) (m : Mode) (p : ℕ) → length (starts_from m p r) ≤ length r
unfolding starts_from pick
starts-few [] m p = omega arith
starts-few (b ∷ r) m p =
    let k = starts-few r (next m (symbol b r)) (suc p) in
    by-test (begins m (symbol b r)) (λ e. rw e (omega arith)) (λ e. rw e (omega arith))

pub tokens-weigh : (text work : List ℕ) (n : ℕ) → left_open (tokens text) ≡ none → Stored text work n → (weights (range text work 0 n) ≤ length text) × (n ≤ length text)
unfolding starts
tokens-weigh text work n closed k =
    let few = starts-few (unmarked text) Mode.Between (first_byte text) in
    let small : n ≤ length text = omega (arith, k.count, unmarked-short text) in
    (rw (range-stored text work closed n k 0 (omega arith), numbered-weights 0 (tokens text)) (tokens-small text), small)
