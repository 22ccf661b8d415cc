-- A VECTOR: its words are counted, and each is a type. Assumes nothing.
use Prim.Native.Nat.{ℕ, zero, suc, ◌+◌, ◌≤◌, ◌<◌}
use Rattle.assumptions.proofs.TypesHeldLaws.{type-of-number, held-set-next}
use Rattle.assumptions.proofs.TypesetWalks.{at-end, at-newline, at_done}
use Rattle.assumptions.proofs.NextWordLaws.{found_here}
use Rattle.block.proofs.WalkLaws.{words-newline, words-end}
use Rattle.assumptions.specs.NextWord.{Found}
use Rattle.assumptions.specs.TypesHeld.{type_number, types_held}
use Rattle.assumptions.specs.TypesetWalk.{typeset_from, typeset_at, set_of}
use Rattle.block.specs.Commands.{words, newline}
use Rattle.block.specs.Outcome.{done, refused, then, fold, need}
use Rattle.block.specs.Typeset.{Types, types, ordering, vector_word, vector_end, typeset_turn, typeset_end}
use Rattle.block.specs.declared.model.CharacterOrdering.{CharacterOrdering}
use Rattle.lexer.proofs.RangeLaws.{word_kept}
use Rattle.lexer.specs.Base.{pick}
use Rattle.lexer.specs.Stored.{word_of, range}
use Rattle.lexer.specs.Words.{Numbered}
use Rattle.lexer.specs.declared.refusal.Refusal.{Refusal}
use Rattle.lexer.specs.declared.Fault.{Fault}
use borrow.Author.Tests.{eq-eqb, ne_eqb}
use lib.ListN.{length, take, set, length-append, length-set}
use lib.Seq.{take-set-le}
use mathlib.Core.Bool.{true, false}
use mathlib.Core.List.{List, [], ◌∷◌, ◌++◌}
use mathlib.Core.Option.{Option, none, some}
use mathlib.Core.Path.{◌≡◌, refl, sym, ap, ◌∙◌}
use native.Mathlib.Numerals.{add-one}
use native.Mathlib.Omega.{arith}

-- A value that must be there is there, or none is.
need-done : (x : Option CharacterOrdering) (m : Refusal) (i : ℕ) (o : CharacterOrdering) → done o ≡ need x m i → x ≡ some o
unfolding need
need-done none m i o e = cc
need-done (some a) m i o e = cc

need-refused : (x : Option CharacterOrdering) (m : Refusal) (i : ℕ) (q : Refusal) (j : ℕ) → refused q j ≡ need x m i → (x ≡ none) × ((q ≡ m) × (j ≡ i))
unfolding need
need-refused none m i q j e = (refl, (cc, cc))
need-refused (some a) m i q j e = (cc, (cc, cc))

-- how many types there are with one more
length_more : (ts : Types) (o : Option CharacterOrdering) → length (ts ++ (o ∷ [])) ≡ suc (length ts)
length_more ts o = length-append ts (o ∷ []) ∙ add-one (length ts)

module _ (n h : ℕ) where
  -- the end of as many types as there are characters
  vector-end-bad : (ts : Types) (i : ℕ) → length ts ≡ n → 1 ≤ n → vector_end (set_of n h) ts (some i) ≡ refused Refusal.TypeSet i
  unfolding vector_end set_of pick
  vector-end-bad [] i e l = absurd (omega arith)
  vector-end-bad (o ∷ ts) i e l = rw (eq-eqb (suc (length ts)) n e)

  vector-end-good : (ts : Types) → length ts ≡ n → 1 ≤ n → vector_end (set_of n h) ts none ≡ done ts
  unfolding vector_end set_of pick
  vector-end-good [] e l = absurd (omega arith)
  vector-end-good (o ∷ ts) e l = rw (eq-eqb (suc (length ts)) n e)

  vector-end-count : (ts : Types) (bad : Option ℕ) → (length ts ≡ n → ⊥) → 1 ≤ length ts → vector_end (set_of n h) ts bad ≡ refused Refusal.Count h
  unfolding vector_end set_of pick
  vector-end-count [] bad e l = absurd (omega arith)
  vector-end-count (o ∷ ts) none e l = rw (ne_eqb (suc (length ts)) n e)
  vector-end-count (o ∷ ts) (some i) e l = rw (ne_eqb (suc (length ts)) n e)

  -- a wrong word waits for the end
  vector-bad : (ts : Types) (i : ℕ) (ws : List Numbered) → length ts + length ws ≡ n → 1 ≤ n → typeset_from (set_of n h) (types ts (some i)) ws ≡ refused Refusal.TypeSet i
  unfolding typeset_from fold then typeset_turn vector_word typeset_end
  vector-bad ts i [] e l = vector-end-bad ts i (omega arith) l
  vector-bad ts i (w ∷ ws) e l = vector-bad (ts ++ (ordering w ∷ [])) i ws (omega (arith, length_more ts (ordering w))) l

  -- a wrong count is met at the end, whatever the words are
  pub vector-count : (ts : Types) (bad : Option ℕ) (ws : List Numbered) → (length ts + length ws ≡ n → ⊥) → 1 ≤ length ts + length ws → typeset_from (set_of n h) (types ts bad) ws ≡ refused Refusal.Count h
  unfolding typeset_from fold then typeset_turn vector_word typeset_end
  vector-count ts bad [] e l = vector-end-count ts bad (λ p. e (omega arith)) (omega arith)
  vector-count ts bad (w ∷ ws) e l =
      go bad (ordering w) (λ o b. vector-count (ts ++ (o ∷ [])) b ws (λ p. e (omega (arith, length_more ts o))) (omega (arith, length_more ts o)))
    where
      go : (b : Option ℕ) (o : Option CharacterOrdering) → ((p : Option CharacterOrdering) (c : Option ℕ) → typeset_from (set_of n h) (types (ts ++ (p ∷ [])) c) ws ≡ refused Refusal.Count h) → typeset_from (set_of n h) (vector_word ts b w o) ws ≡ refused Refusal.Count h
      go none none more = more none (some w.index)
      go none (some o) more = more (some o) none
      go (some i) o more = more o (some i)

  -- no word
  pub vector-empty : (ws : List Numbered) → 0 ≡ length ws → refused Refusal.TypeSet h ≡ typeset_from (set_of n h) (types [] none) ws
  unfolding typeset_from fold then typeset_end vector_end set_of
  vector-empty [] e = refl
  vector-empty (w ∷ ws) e = absurd (omega arith)

-- Each character has a type or none.
pub types-length : (work : List ℕ) (at n : ℕ) → length (types_held work at n) ≡ n
unfolding types_held
types-length work at zero = refl
types-length work at (suc n) = ap suc (types-length work (suc at) n)

-- So many words are types, and stored.
pub record Vectoring (text : List ℕ) (head from to at n : ℕ) (before work : List ℕ) (i k : ℕ) : Type 0 where
  pub size : length work ≡ length before
  pub front : take at work ≡ take at before
  pub count : k + length (words (range text before i to)) ≡ n
  pub rest : typeset_at (set_of n head) text before to (types (types_held work at k) none) i ≡ typeset_at (set_of n head) text before to (types [] none) from

module _ (text : List ℕ) (head from to at n : ℕ) (before : List ℕ) where
  pub vectoring-start : length (words (range text before from to)) ≡ n → Vectoring text head from to at n before before from 0
  unfolding types_held
  vectoring-start e = record { size = refl; front = refl; count = omega arith; rest = refl }

  module _ (below : to ≤ at) (work : List ℕ) (i k : ℕ) (v : Vectoring text head from to at n before work i k) where
    same_word : i < to → word_of text work i ≡ word_of text before i
    same_word h = word_kept text work before at v.front i (omega arith)

    pub vectoring-newline : i < to → newline (word_of text work i) ≡ true → Vectoring text head from to at n before work (i + 1) k
    vectoring-newline h e =
        let here : newline (word_of text before i) ≡ true = rw (same_word h) at e in
        record {
          size = v.size;
          front = v.front;
          count = omega (arith, ap length (words-newline text before i to h here), v.count);
          rest = at-newline (set_of n head) text before to (types (types_held work at k) none) i h here ∙ v.rest;
        }

    module _ (h : i < to) (z : newline (word_of text work i) ≡ false) where
      found : Found text before i to i
      found = let here : newline (word_of text before i) ≡ false = rw (same_word h) at z in found_here text before to i h here

      more : length (words (range text before i to)) ≡ suc (length (words (range text before (i + 1) to)))
      more = ap length found.here

      pub vectoring-room : k < n
      vectoring-room = omega (arith, v.count, more)

      pub vectoring-turn : (o : CharacterOrdering) → at + n ≤ length before → done o ≡ need (ordering (word_of text work i)) Refusal.TypeSet i → Vectoring text head from to at n before (set work (at + k) (type_number o)) (i + 1) (k + 1)
      unfolding typeset_turn vector_word
      vectoring-turn o fits e =
          let room = vectoring-room in
          let here : ordering (word_of text before i) ≡ some o = need-done _ _ _ _ (rw (same_word h) at e) in
          let held : types_held (set work (at + k) (type_number o)) at (k + 1) ≡ types_held work at k ++ (some o ∷ []) = rw (add-one k) (held-set-next work at k (type_number o) (omega (arith, v.size)) ∙ rw (type-of-number o)) in
          record {
            size = length-set work (at + k) (type_number o) ∙ v.size;
            front = take-set-le at work (at + k) (type_number o) (omega arith) ∙ v.front;
            count = omega (arith, v.count, more);
            rest = rw held (at_done (set_of n head) text before to (types (types_held work at k) none) found (types (types_held work at k ++ (some o ∷ [])) none) (rw here) ∙ v.rest);
          }

      pub vectoring-over : (f : Fault ℕ) → 1 ≤ n → refused f.0 f.1 ≡ need (ordering (word_of text work i)) Refusal.TypeSet i → refused f.0 f.1 ≡ typeset_at (set_of n head) text before to (types [] none) from
      unfolding typeset_turn vector_word typeset_at word_of need
      vectoring-over f l e =
          let p = need-refused _ _ _ _ _ (rw (same_word h) at e) in
          let here : ordering (word_of text before i) ≡ none = p.0 in
          let held = types_held work at k in
          let size : length (held ++ (none ∷ [])) + length (words (range text before (i + 1) to)) ≡ n = omega (arith, v.count, more, length_more held none, types-length work at k) in
          rw (p.1.0, p.1.1)
          (sym (vector-bad n head (held ++ (none ∷ [])) i (words (range text before (i + 1) to)) size l)
          ∙ at_done (set_of n head) text before to (types held none) found (types (held ++ (none ∷ [])) (some i)) (rw here)
          ∙ v.rest)

    pub vectoring-end : to ≤ i → 1 ≤ n → done (types_held work at n) ≡ typeset_at (set_of n head) text before to (types [] none) from
    unfolding typeset_end
    vectoring-end h l =
        let past = words-end text before i to h in
        let over : length (words (range text before i to)) ≡ 0 = ap length past in
        let all : k ≡ n = omega (arith, v.count) in
        sym (vector-end-good n head (types_held work at n) (types-length work at n) l) ∙ rw all at (at-end (set_of n head) text before to (types (types_held work at k) none) i past ∙ v.rest)
