-- The walk over the words of a list, up to a comma or the end of the command. Assumes nothing.
use Rattle.std.specs.Prelude.{Ok, Err, Result, ⊤}
use Prim.Native.Nat.{ℕ, ◌+◌, ◌≤◌, ◌<◌}
use Rattle.assumptions.proofs.TypesetWalks.{at-end, at-newline, at_done, at-refused}
use Rattle.assumptions.proofs.NextWordLaws.{found_here}
use Rattle.block.proofs.WalkLaws.{words-end}
use Rattle.block.specs.Commands.{newline}
use Rattle.assumptions.specs.ListCode.{Follows}
use Rattle.assumptions.specs.NextWord.{Found}
use Rattle.assumptions.specs.TypesHeld.{unless_twice, types_held}
use Rattle.assumptions.specs.TypesetWalk.{set_of, typeset_at}
use Rattle.assumptions.specs.declared.characters.Listed as Code
use Rattle.block.specs.CharacterList.{part, parts, Listed, listed, part_turn, list_turn}
use Rattle.block.specs.Judged.{judged}
use Rattle.block.specs.Outcome.{Outcome, done, refused, then, fold}
use Rattle.block.specs.Typeset.{Types, Typing, list, type, typed, list_ends, list_word, typeset_turn, typeset_end}
use Rattle.block.specs.declared.kinds.Item.{Item}
use Rattle.block.specs.declared.kinds.Range.{Range}
use Rattle.block.specs.declared.model.CharacterOrdering.{CharacterOrdering}
use Rattle.lexer.proofs.RangeLaws.{word_kept, range-kept}
use Rattle.lexer.specs.Base.{pick}
use Rattle.lexer.specs.Stored.{word_of}
use Rattle.lexer.specs.Words.{Numbered, punct, is_word}
use Rattle.lexer.specs.declared.refusal.Refusal.{Refusal}
use Rattle.lexer.specs.declared.Fault.{Fault}
use Rattle.lexer.specs.Refusals.{fault}
use lib.ListN.{length, take}
use mathlib.Core.Bool.{Bool, true, false}
use mathlib.Core.List.{List, []}
use mathlib.Core.Path.{◌≡◌, refl, ◌∙◌}
use native.Mathlib.Omega.{arith}

pub then-done : {A : Type 0} (o : Outcome A) → then o (λ a. done a) ≡ o
unfolding then
then-done (done a) = refl
then-done (refused n i) = refl

-- A token that is no word is one part.
list-turn-whole : (count : ℕ) (l : Listed) (w : Numbered) → is_word w.token.kind ≡ false → list_turn count l w ≡ part_turn count l (part w w.token.text)
unfolding list_turn parts pick fold
list-turn-whole count l w h = rw h (then-done (part_turn count l (part w w.token.text)))

-- What is read does not depend on the numbers behind the front of work memory.
pub at-front : (n h : ℕ) (text work before : List ℕ) (at : ℕ) → take at work ≡ take at before → (to : ℕ) → to ≤ at → (s : Typing) (i : ℕ) → typeset_at (set_of n h) text work to s i ≡ typeset_at (set_of n h) text before to s i
unfolding typeset_at
at-front n h text work before at e to l s i = rw (range-kept text work before at e i to l)

-- A list so far stands for one of the definition with some ranges, which lead from here on to what the list comes to from its front.
pub record Listing (text : List ℕ) (to at count : ℕ) (o : CharacterOrdering) (word from : ℕ) (before work : List ℕ) (m : Item) (twice : Bool) (i : ℕ) : Type 0 where
  pub size : length work ≡ length before
  pub front : take at work ≡ take at before
  pub onward : from ≤ i
  pub ranges : List Range
  pub gives : typed o ranges (types_held before at count) ≡ unless_twice twice (types_held work at count)
  pub rest : (h : ℕ) → typeset_at (set_of count h) text before to (list (types_held before at count) o word (listed ranges m)) i ≡ typeset_at (set_of count h) text before to (list (types_held before at count) o word (listed [] Item.Number)) from

module _ (text : List ℕ) (to at count : ℕ) (o : CharacterOrdering) (word from : ℕ) (before : List ℕ) where
  pub listing_start : Listing text to at count o word from before before Item.Number false from
  unfolding typed unless_twice pick
  listing_start = record { size = refl; front = refl; onward = omega arith; ranges = []; gives = refl; rest = λ h. refl }

  module _ (below : to ≤ at) (work : List ℕ) (m : Item) (twice : Bool) (i : ℕ) (k : Listing text to at count o word from before work m twice i) where
    same_word : i < to → word_of text work i ≡ word_of text before i
    same_word l = word_kept text work before at k.front i (omega arith)

    pub listing-newline : i < to → newline (word_of text work i) ≡ true → Listing text to at count o word from before work m twice (i + 1)
    listing-newline l e =
        let here : newline (word_of text before i) ≡ true = rw (same_word l) at e in
        record {
          size = k.size;
          front = k.front;
          onward = omega (arith, k.onward);
          ranges = k.ranges;
          gives = k.gives;
          rest = λ h. at-newline (set_of count h) text before to (list (types_held before at count) o word (listed k.ranges m)) i l here ∙ k.rest h;
        }

    pub listing-end : to ≤ i → (us : Types) (v : Result ⊤ (Fault ℕ)) → judged us v ≡ list_ends (types_held before at count) o word (listed k.ranges m) → (h : ℕ) → judged us v ≡ typeset_at (set_of count h) text before to (list (types_held before at count) o word (listed [] Item.Number)) from
    unfolding typeset_end
    listing-end l us v e h = e ∙ at-end (set_of count h) text before to (list (types_held before at count) o word (listed k.ranges m)) i (words-end text before i to l) ∙ k.rest h

    -- a word
    module _ (l : i < to) (z : newline (word_of text work i) ≡ false) where
      found : Found text before i to i
      found = let here : newline (word_of text before i) ≡ false = rw (same_word l) at z in found_here text before to i l here

      -- at a comma
      pub listing-comma : punct 44 (word_of text work i) ≡ true → (us : Types) (v : Result ⊤ (Fault ℕ)) → judged us v ≡ list_ends (types_held before at count) o word (listed k.ranges m) → (h : ℕ)
          → then (judged us v) (λ _. typeset_at (set_of count h) text before to (type us) (i + 1)) ≡ typeset_at (set_of count h) text before to (list (types_held before at count) o word (listed [] Item.Number)) from
      unfolding judged then typeset_turn list_word pick
      listing-comma p us (Ok tt) e h =
          let here : punct 44 (word_of text before i) ≡ true = rw (same_word l) at p in
          at_done (set_of count h) text before to (list (types_held before at count) o word (listed k.ranges m)) found (type us) (rw (here, ← e)) ∙ k.rest h
      listing-comma p us (Err f) e h =
          let here : punct 44 (word_of text before i) ≡ true = rw (same_word l) at p in
          at-refused (set_of count h) text before to (list (types_held before at count) o word (listed k.ranges m)) found f.0 f.1 (rw (here, ← e)) ∙ k.rest h

      -- one word more
      module _ (p : punct 44 (word_of text work i) ≡ false) (work' : List ℕ) (r : Result Code.Listed (Fault ℕ)) (f : Follows o (types_held before at count) (types_held work' at count) (list_turn count (listed k.ranges m) (word_of text work i)) r) where
        here : punct 44 (word_of text before i) ≡ false
        here = rw (same_word l) at p

        pub listing-turn : length work' ≡ length work → take at work' ≡ take at work → (l' : Code.Listed) → r ≡ Ok l' → Listing text to at count o word from before work' l'.item l'.twice (i + 1)
        unfolding typeset_turn list_word pick then set_of
        listing-turn s t l' e =
            let stands = f.on l' e in
            let turned : list_turn count (listed k.ranges m) (word_of text before i) ≡ done (listed stands.ranges l'.item) = rw (same_word l) at stands.is in
            record {
              size = s ∙ k.size;
              front = t ∙ k.front;
              onward = omega (arith, k.onward);
              ranges = stands.ranges;
              gives = stands.gives;
              rest = λ h. at_done (set_of count h) text before to (list (types_held before at count) o word (listed k.ranges m)) found (list (types_held before at count) o word (listed stands.ranges l'.item)) (rw (here, turned)) ∙ k.rest h;
            }

        pub listing-over : (n : Refusal) (q : ℕ) → r ≡ Err (fault n q) → (h : ℕ) → refused n q ≡ typeset_at (set_of count h) text before to (list (types_held before at count) o word (listed [] Item.Number)) from
        unfolding typeset_turn list_word pick then set_of
        listing-over n q e h =
            let turned : list_turn count (listed k.ranges m) (word_of text before i) ≡ refused n q = rw (same_word l) at (f.over n q e) in
            at-refused (set_of count h) text before to (list (types_held before at count) o word (listed k.ranges m)) found n q (rw (here, turned)) ∙ k.rest h

pub whole-follows : (count : ℕ) (o : CharacterOrdering) (ts us : Types) (l : Listed) (w : Numbered) (r : Result Code.Listed (Fault ℕ)) → is_word w.token.kind ≡ false → Follows o ts us (part_turn count l (part w w.token.text)) r → Follows o ts us (list_turn count l w) r
whole-follows count o ts us l w r h f = rw (list-turn-whole count l w h) f
