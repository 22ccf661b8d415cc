-- Symbols that stand in front, each valid and each new: what a walk over them keeps, and that such a run is the symbols of a line. Assumes nothing.
use Prim.Native.Nat.{ℕ, suc, ◌+◌, ◌-◌, ◌≤◌, ◌<◌}
use Rattle.block.specs.Format.{all_valid, valid_symbol}
use Rattle.block.specs.Sound.{distinct}
use Rattle.judging.specs.Opening.{run_of}
use Rattle.lexer.proofs.Basics.{among-append, and_both, and_left, and_right, by-test, eqb-sym, eqb_same, not-both, or-both, or-false, or-first, or_right, or-second, pick_first, pick_second}
use Rattle.lexer.proofs.ListLaws.{drop-next}
use Rattle.lexer.specs.Base.{among, pick}
use Rattle.std.specs.List.{list_any}
use borrow.Author.Tests.{eqb-true, not-true}
use lib.Dec.{eqb}
use lib.ListN.{length, drop, get_or, take, drop_of_length-le, length-drop}
use lib.Seq.{get_or-drop, take-suc}
use mathlib.Core.Bool.{Bool, true, false, ◌&&◌, ◌||◌, not}
use mathlib.Core.List.{List, [], ◌∷◌, ◌++◌}
use mathlib.Core.Path.{◌≡◌, refl, sym, ap, ◌∙◌}
use native.Mathlib.Omega.{arith}

-- Of two tests it does not matter which is first.
or_comm : (x y : Bool) → x || y ≡ y || x
or_comm false y = sym (or-false y)
or_comm true false = refl
or_comm true true = refl

-- A byte is among these where one of them is equal to it.
pub any-among : (x : ℕ) (l : List ℕ) → list_any (λ y. eqb y x) l ≡ among x l
unfolding among
any-among x [] = refl
any-among x (y ∷ l) = rw (eqb-sym y x, any-among x l)

-- A run of symbols: what stands in front from here on, beside those that were seen, is the rest of the run.
pub record Running (b : List ℕ) (from at : ℕ) : Type 0 where
  pub ahead : from ≤ at
  pub seen : List ℕ
  pub same : (x : ℕ) → among x seen ≡ among x (take (at - from) (drop from b))
  pub rest : at + run_of seen (drop at b) ≡ from + run_of [] (drop from b)

pub running-start : (b : List ℕ) (from : ℕ) → Running b from from
running-start b from = let none : from - from ≡ 0 = omega arith in record { ahead = omega arith; seen = []; same = λ x. rw none refl; rest = refl }

module _ (b : List ℕ) (from at : ℕ) (s : Running b from at) where
  module _ (more : at < length b) where
    abbrev here : ℕ
    here = get_or b at 0

    abbrev test : Bool
    test = valid_symbol here && not (among here s.seen)

    next-run : run_of s.seen (drop at b) ≡ pick test (suc (run_of (here ∷ s.seen) (drop (at + 1) b))) 0
    unfolding run_of
    next-run = ap (run_of s.seen) (drop-next b at more)

    stopped : test ≡ false → at ≡ from + run_of [] (drop from b)
    stopped ends = omega (arith, s.rest, next-run ∙ pick_second test _ 0 ends)

    -- No valid symbol stands here.
    pub running-invalid : valid_symbol here ≡ false → at ≡ from + run_of [] (drop from b)
    running-invalid bad = stopped (ap (λ t. t && not (among here s.seen)) bad)

    -- It stood there before.
    pub running-again : valid_symbol here ≡ true → true ≡ among here (take (at - from) (drop from b)) → at ≡ from + run_of [] (drop from b)
    running-again valid again =
        let known : among here s.seen ≡ true = s.same here ∙ sym again in
        stopped (rw (valid, known) refl)

    -- A valid symbol stands here that did not before.
    pub running-on : valid_symbol here ≡ true → false ≡ among here (take (at - from) (drop from b)) → Running b from (at + 1)
    unfolding among
    running-on valid new =
        let unknown : among here s.seen ≡ false = s.same here ∙ sym new in
        let yes : test ≡ true = rw (valid, unknown) refl in
        record {
          ahead = omega (arith, s.ahead);
          seen = here ∷ s.seen;
          same = same;
          rest = omega (arith, s.rest, next-run ∙ pick_first test (suc (run_of (here ∷ s.seen) (drop (at + 1) b))) 0 yes);
        }
      where
        at-end : take (at + 1 - from) (drop from b) ≡ take (at - from) (drop from b) ++ (get_or b at 0 ∷ [])
        at-end =
            let one : at + 1 - from ≡ suc (at - from) = omega (arith, s.ahead) in
            let place : from + (at - from) ≡ at = omega (arith, s.ahead) in
            ap (λ n. take n (drop from b)) one ∙ take-suc (drop from b) (at - from) 0 (rw (length-drop from b) (omega (arith, s.ahead)))
            ∙ ap (λ c. take (at - from) (drop from b) ++ (c ∷ [])) (get_or-drop from b (at - from) 0 ∙ ap (λ k. get_or b k 0) place)

        same : (x : ℕ) → eqb x here || among x s.seen ≡ among x (take (at + 1 - from) (drop from b))
        same x =
            let all : among x (take (at + 1 - from) (drop from b)) ≡ among x (take (at - from) (drop from b)) || (eqb x here || false) =
            ap (among x) at-end ∙ among-append x (take (at - from) (drop from b)) (get_or b at 0 ∷ []) in
            ap (λ t. eqb x here || t) (s.same x) ∙ or_comm (eqb x here) (among x (take (at - from) (drop from b)))
            ∙ ap (λ t. among x (take (at - from) (drop from b)) || t) (sym (or-false (eqb x here))) ∙ sym all

  -- The bytes end here.
  pub running-over : length b ≤ at → at ≡ from + run_of [] (drop from b)
  unfolding run_of
  running-over past = omega (arith, s.rest, ap (run_of s.seen) (drop_of_length-le b past))

-- What a run is: valid symbols, all different, none of them seen before.
pub record Fresh (seen l : List ℕ) : Type 0 where
  pub valid : all_valid l ≡ true
  pub different : distinct l ≡ true
  pub new : (x : ℕ) → among x l ≡ true → among x seen ≡ false

-- A byte stands among these and is another: it stands among those behind.
fresh-first : (b : ℕ) (seen r : List ℕ) → valid_symbol b ≡ true → among b seen ≡ false → Fresh (b ∷ seen) r → Fresh seen (b ∷ r)
unfolding all_valid distinct among
fresh-first b seen r valid unknown f =
    record {
      valid = and_both valid f.valid;
      different = and_both (by-test (among b r) (λ t. not-both (f.new b t) (or-first (eqb b b) (among b seen) (eqb_same b))) (λ n. ap not n)) f.different;
      new = λ x t. by-test (eqb x b) (λ e. rw (eqb-true x b e) unknown) (λ n. or_right (eqb x b) (among x seen) (f.new x (sym (ap (λ q. q || among x r) n) ∙ t)));
    }

-- The run in front of some bytes is one.
pub run-fresh : (seen l : List ℕ) → Fresh seen (take (run_of seen l) l)
unfolding run_of all_valid distinct among pick
run-fresh seen [] = record { valid = refl; different = refl; new = λ x e. not-both refl e }
run-fresh seen (b ∷ r) = go (run-fresh (b ∷ seen) r) (valid_symbol b) refl (among b seen) refl
  where
    go : Fresh (b ∷ seen) (take (run_of (b ∷ seen) r) r) → (v : Bool) → valid_symbol b ≡ v → (a : Bool) → among b seen ≡ a → Fresh seen (take (pick (v && not a) (suc (run_of (b ∷ seen) r)) 0) (b ∷ r))
    go f true p false q = fresh-first b seen (take (run_of (b ∷ seen) r) r) p q f
    go f true p true q = record { valid = refl; different = refl; new = λ x e. not-both refl e }
    go f false p a q = record { valid = refl; different = refl; new = λ x e. not-both refl e }

-- A run in front of an LF is the whole of it.
pub run-whole : (seen s rest : List ℕ) → Fresh seen s → run_of seen (s ++ (10 ∷ rest)) ≡ length s
unfolding run_of valid_symbol all_valid distinct among pick
run-whole seen [] rest f = refl
run-whole seen (b ∷ s) rest f =
    let valid : valid_symbol b ≡ true = and_left (valid_symbol b) (all_valid s) f.valid in
    let unknown : among b seen ≡ false = f.new b (or-first (eqb b b) (among b s) (eqb_same b)) in
    let more : Fresh (b ∷ seen) s =
    record {
      valid = and_right (valid_symbol b) (all_valid s) f.valid;
      different = and_right (not (among b s)) (distinct s) f.different;
      new = λ x t.
          or-both (by-test (eqb x b) (λ e. not-both (not-true (among b s) (and_left (not (among b s)) (distinct s) f.different)) (rw (sym (eqb-true x b e)) t)) (λ n. n))
          (f.new x (or-second (eqb x b) (among x s) t));
    } in
    pick_first (valid_symbol b && not (among b seen)) _ 0 (and_both valid (ap not unknown)) ∙ ap suc (run-whole (b ∷ seen) s rest more)
