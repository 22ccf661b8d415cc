-- The symbols of a token's text by their codes: the walk over them, and which tokens have any. Assumes nothing.
use Rattle.std.proofs.lemmas.Option.{some_pair_parts}
use Rattle.std.specs.Prelude.{Some, None, Option}
use Prim.Native.Nat.{ℕ, suc, ◌+◌, ◌-◌, ◌≤◌, ◌<◌}
use Rattle.lexer.proofs.Basics.{by-test}
use Rattle.lexer.proofs.ListLaws.{take_next}
use Rattle.lexer.proofs.NextBytes.{front-left}
use Rattle.lexer.proofs.PlainRuns.{PlainRun}
use Rattle.lexer.proofs.Yielded.{YieldsByte}
use Rattle.lexer.specs.Base.{pick}
use Rattle.lexer.specs.Bytes.{front_at, left}
use Rattle.lexer.specs.Lexing.{token_at}
use Rattle.lexer.specs.PlainWords.{PlainWord, part}
use Rattle.lexer.specs.Stored.{word_of}
use Rattle.lexer.specs.Words.{punct, is_word}
use Rattle.lexer.specs.declared.Cursor.{Cursor}
use Rattle.matrix.specs.RowShape.{all_coded, coded, symbols_coded}
use borrow.Author.Tests.{eq-eqb, ne_eqb}
use lib.Dec.{eqb, ltb}
use lib.ListN.{length, get_or, take, drop, length-take, length-drop}
use mathlib.Core.Bool.{Bool, true, false, ◌&&◌, false≢true, true≢false}
use mathlib.Core.List.{List, [], ◌∷◌, ◌++◌}
use mathlib.Core.Path.{◌≡◌, refl, sym, ap, ◌∙◌}
use native.Mathlib.Omega.{arith}

-- What symbols come to behind others: these come to so many cells, or one of them is wrong.
module _ (codes : List ℕ) where
  coded-behind : (l r : List ℕ) (n : ℕ) (states : Bool) (k : ℕ) (all : Bool) → coded codes n states l ≡ Some (k, all)
      → (coded codes n states (l ++ r) ≡ coded codes k all r) × (k ≡ n + length l)
  unfolding coded pick
  coded-behind [] r n states k all e = let p = some_pair_parts _ _ _ _ e in (rw (p.0, p.1), omega (arith, p.0))
  coded-behind (b ∷ l) r n states k all e = by-test (eqb (get_or codes b 0) 255) (λ t. never (rw t at e)) (λ f. more f (coded-behind l r (n + 1) (states && ltb (get_or codes b 0) 96) k all (rw f at e)))
    where
      never : ◌≡◌ {A = Option (ℕ × Bool)} None (Some (k, all)) → (coded codes n states (b ∷ l ++ r) ≡ coded codes k all r) × (k ≡ n + suc (length l))
      never e = let z : ◌≡◌ {A = ℕ} 0 1 = cc in absurd (omega arith)

      more : eqb (get_or codes b 0) 255 ≡ false → (coded codes (n + 1) (states && ltb (get_or codes b 0) 96) (l ++ r) ≡ coded codes k all r) × (k ≡ n + 1 + length l)
          → (coded codes n states (b ∷ l ++ r) ≡ coded codes k all r) × (k ≡ n + suc (length l))
      more f h = (rw f h.0, omega (arith, h.1))

  coded-wrong : (l r : List ℕ) (n : ℕ) (states : Bool) → coded codes n states l ≡ None → coded codes n states (l ++ r) ≡ None
  unfolding coded pick
  coded-wrong [] r n states e = let z : ◌≡◌ {A = ℕ} 0 1 = cc in absurd (omega arith)
  coded-wrong (b ∷ l) r n states e = by-test (eqb (get_or codes b 0) 255) (λ t. rw t) (λ f. rw f (coded-wrong l r (n + 1) (states && ltb (get_or codes b 0) 96) (rw f at e)))

-- What stands from a place up to an end, behind so many cells, comes to what all of it comes to; each cell took a byte of the text.
pub record Running (text codes : List ℕ) (from end count : ℕ) (all : Bool) (n : ℕ) (states : Bool) (i : ℕ) : Type 0 where
  pub within : (from ≤ i) × (i ≤ end)
  pub passed : n ≤ i
  pub rest : coded codes n states (take (end - i) (drop i text)) ≡ coded codes count all (take (end - from) (drop from text))

module _ (text codes : List ℕ) (from end count : ℕ) (all : Bool) where
  module _ (n : ℕ) (states : Bool) (i : ℕ) (k : Running text codes from end count all n states i) where
    module _ (h : i < end) (here : i < length text) where
      pub running-turn : (get_or codes (get_or text i 0) 0 ≡ 255 → ⊥) → Running text codes from end count all (n + 1) (states && ltb (get_or codes (get_or text i 0) 0) 96) (i + 1)
      unfolding coded pick
      running-turn ne =
          record {
            within = (omega (arith, k.within), omega arith);
            passed = omega (arith, k.passed);
            rest = sym (rw (take_next text i end h here, ne_eqb (get_or codes (get_or text i 0) 0) 255 ne)) ∙ k.rest;
          }

      pub running-wrong : get_or codes (get_or text i 0) 0 ≡ 255 → None ≡ coded codes count all (take (end - from) (drop from text))
      unfolding coded pick
      running-wrong e = sym (rw (take_next text i end h here, eq-eqb (get_or codes (get_or text i 0) 0) 255 e)) ∙ k.rest

    pub running-end : end ≤ i → Some (n, states) ≡ coded codes count all (take (end - from) (drop from text))
    unfolding coded
    running-end h = let none : end - i ≡ 0 = omega arith in sym (rw none) ∙ k.rest

-- What symbols come to behind so many cells, where all of them are cells, and where one is none.
module _ (codes : List ℕ) where
  pub all-coded : (l : List ℕ) (n : ℕ) (states : Bool) → all_coded codes l ≡ true → (all : Bool) × (coded codes n states l ≡ Some (n + length l, all))
  unfolding all_coded coded pick
  all-coded [] n states e = let none : n ≡ n + 0 = omega arith in (states, rw (← none) refl)
  all-coded (b ∷ l) n states e =
      by-test (eqb (get_or codes b 0) 255) (λ t. absurd (false≢true (rw t at e)))
      (λ f. let told = all-coded l (n + 1) (states && ltb (get_or codes b 0) 96) (rw f at e) in let one : n + 1 + length l ≡ n + suc (length l) = omega arith in (told.0, rw f (rw one at told.1)))

  pub wrong-coded : (l : List ℕ) (n : ℕ) (states : Bool) → all_coded codes l ≡ false → coded codes n states l ≡ None
  unfolding all_coded coded pick
  wrong-coded [] n states e = absurd (true≢false e)
  wrong-coded (b ∷ l) n states e = by-test (eqb (get_or codes b 0) 255) (λ t. rw t) (λ f. rw f (wrong-coded l (n + 1) (states && ltb (get_or codes b 0) 96) (rw f at e)))

-- So many cells, and what is left of the text behind them, come to what all comes to; each took a byte of the text.
pub record Coding (text codes : List ℕ) (start n : ℕ) (states : Bool) (c : Cursor) : Type 0 where
  pub passed : n ≤ c.at
  pub rest : coded codes n states (left text c) ≡ coded codes 0 true (token_at text start).text

module _ (text codes : List ℕ) (start : ℕ) where
  pub coding-start : (c : Cursor) → c ≡ front_at text start → Coding text codes start 0 true c
  coding-start c e = record { passed = omega arith; rest = rw (front-left text start c e) }

  -- A run of plain bytes from a cursor up to another, and the next byte.
  module _ (n : ℕ) (states : Bool) (c d : Cursor) (k : Coding text codes start n states c) (p : PlainRun text c d) (r : Option (ℕ × Bool))
      (e : r ≡ coded codes n states (take (d.at - c.at) (drop c.at text))) where
    pub run-wrong : r ≡ None → None ≡ coded codes 0 true (token_at text start).text
    run-wrong w = sym (ap (coded codes n states) p.rest ∙ coded-wrong codes _ (left text d) n states (sym e ∙ w)) ∙ k.rest

    pub run-coding : (m : ℕ) (all : Bool) → r ≡ Some (m, all) → Coding text codes start m all d
    run-coding m all s =
        let told = coded-behind codes _ (left text d) n states m all (sym e ∙ s) in
        record {
          passed = omega (arith, told.1, k.passed, p.ahead, length-take (d.at - c.at) (drop c.at text), length-drop c.at text);
          rest = sym (ap (coded codes n states) p.rest ∙ told.0) ∙ k.rest;
        }

  module _ (n : ℕ) (states : Bool) (c : Cursor) (k : Coding text codes start n states c) where
    module _ (b : ℕ) (d : Cursor) (y : YieldsByte text c.at (left text c) b d) where
      pub coding-turn : (get_or codes b 0 ≡ 255 → ⊥) → Coding text codes start (n + 1) (states && ltb (get_or codes b 0) 96) d
      unfolding coded pick
      coding-turn h = record { passed = omega (arith, y.ahead, k.passed); rest = sym (rw (y.here, ne_eqb (get_or codes b 0) 255 h)) ∙ k.rest }

      pub coding-wrong : get_or codes b 0 ≡ 255 → None ≡ coded codes 0 true (token_at text start).text
      unfolding coded pick
      coding-wrong h = sym (rw (y.here, eq-eqb (get_or codes b 0) 255 h)) ∙ k.rest

    pub coding-end : left text c ≡ [] → Some (n, states) ≡ coded codes 0 true (token_at text start).text
    unfolding coded
    coding-end e = sym (rw e) ∙ k.rest

-- The symbols of a word, by the kind of its token.
module _ (text work codes : List ℕ) (i start : ℕ) (at : start ≡ get_or work i 0) where
  pub symbols-word : is_word (token_at text start).kind ≡ true → coded codes 0 true (token_at text start).text ≡ symbols_coded codes (word_of text work i)
  unfolding symbols_coded word_of pick
  symbols-word e = rw (← at, e)

  pub symbols-told : (end : ℕ) → PlainWord text start end → coded codes 0 true (part text start end) ≡ symbols_coded codes (word_of text work i)
  unfolding is_word
  symbols-told end p = ap (λ t. coded codes 0 true t.text) (sym p.told) ∙ symbols-word (ap (λ t. is_word t.kind) p.told)

  module _ (other : is_word (token_at text start).kind ≡ false) where
    pub symbols-plus : punct 43 (word_of text work i) ≡ true → coded codes 0 true (token_at text start).text ≡ symbols_coded codes (word_of text work i)
    unfolding symbols_coded word_of pick
    symbols-plus e = rw (← at, other, rw (← at) at e)

    pub symbols-none : punct 43 (word_of text work i) ≡ false → None ≡ symbols_coded codes (word_of text work i)
    unfolding symbols_coded word_of pick
    symbols-none e = rw (← at, other, rw (← at) at e)
