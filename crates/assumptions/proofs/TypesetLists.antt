-- The lists of a TYPESET: a type word, its `:`, a list that is not empty, and so on behind each comma. Assumes nothing.
use Rattle.std.specs.Prelude as Std
use Rattle.std.specs.Prelude.{Result, Ok, Err, Some, None}
use Prim.Native.Nat.{ℕ, ◌+◌, ◌≤◌}
use Rattle.assumptions.proofs.ListWalks.{at-front}
use Rattle.assumptions.proofs.TypesetWalks.{at-end, at_done, at-refused, at-alike}
use Rattle.assumptions.specs.ListCode.{list_then}
use Rattle.assumptions.specs.NextWord.{Found}
use Rattle.assumptions.specs.TypesHeld.{types_held}
use Rattle.assumptions.specs.TypesetWalk.{set_of, typeset_from, typeset_at}
use Rattle.block.specs.CharacterList.{listed}
use Rattle.block.specs.Commands.{words}
use Rattle.block.specs.Outcome.{done, refused, then, need}
use Rattle.block.specs.Typeset.{Types, star, type, colon, begin, list, ordering, typeset, typeset_turn, typeset_end}
use Rattle.block.specs.declared.kinds.Item.{Item}
use Rattle.block.specs.declared.model.CharacterOrdering.{CharacterOrdering}
use Rattle.lexer.specs.Base.{pick}
use Rattle.lexer.specs.Stored.{word_of, range}
use Rattle.lexer.specs.Words.{punct}
use Rattle.lexer.specs.declared.refusal.Refusal.{Refusal}
use Rattle.lexer.specs.declared.Fault.{Fault}
use lib.ListN.{length, take}
use mathlib.Core.Bool.{true, false}
use mathlib.Core.List.{List, []}
use mathlib.Core.Path.{◌≡◌, refl, sym, ◌∙◌}

module _ (n h : ℕ) (text work : List ℕ) (to : ℕ) (ts : Types) where
  -- the type word
  module _ (from : ℕ) where
    pub type-past : words (range text work from to) ≡ [] → refused Refusal.TypeSet h ≡ typeset_at (set_of n h) text work to (type ts) from
    unfolding typeset_end set_of
    type-past e = at-end (set_of n h) text work to (type ts) from e

    module _ (j : ℕ) (x : Found text work from to j) where
      pub type-none : (f : Fault ℕ) → refused f.0 f.1 ≡ need (ordering (word_of text work j)) Refusal.TypeSet j → refused f.0 f.1 ≡ typeset_at (set_of n h) text work to (type ts) from
      unfolding typeset_turn then word_of
      type-none f e = at-refused (set_of n h) text work to (type ts) x f.0 f.1 (rw (← e))

      pub type-some : (o : CharacterOrdering) → done o ≡ need (ordering (word_of text work j)) Refusal.TypeSet j → typeset_at (set_of n h) text work to (colon ts o j) (j + 1) ≡ typeset_at (set_of n h) text work to (type ts) from
      unfolding typeset_turn then word_of
      type-some o e = at_done (set_of n h) text work to (type ts) x (colon ts o j) (rw (← e))

  -- its list, behind its `:`
  module _ (o : CharacterOrdering) (word from : ℕ) where
    pub begin-past : words (range text work from to) ≡ [] → refused Refusal.CharacterList word ≡ typeset_at (set_of n h) text work to (begin ts o word) from
    unfolding typeset_end
    begin-past e = at-end (set_of n h) text work to (begin ts o word) from e

    module _ (k : ℕ) (y : Found text work from to k) where
      pub begin-comma : punct 44 (word_of text work k) ≡ true → refused Refusal.CharacterList word ≡ typeset_at (set_of n h) text work to (begin ts o word) from
      unfolding typeset_turn pick
      begin-comma c = at-refused (set_of n h) text work to (begin ts o word) y Refusal.CharacterList word (rw c)

      pub begin-list : punct 44 (word_of text work k) ≡ false → typeset_at (set_of n h) text work to (list ts o word (listed [] Item.Number)) from ≡ typeset_at (set_of n h) text work to (begin ts o word) from
      unfolding typeset_turn pick
      begin-list c = at-alike (set_of n h) text work to (begin ts o word) y (list ts o word (listed [] Item.Number)) (rw c)

-- The lists so far are typed.
pub record Lists (text : List ℕ) (n h from to at : ℕ) (before work : List ℕ) (i : ℕ) : Type 0 where
  pub size : length work ≡ length before
  pub front : take at work ≡ take at before
  pub rest : typeset_at (set_of n h) text before to (type (types_held work at n)) i ≡ typeset_at (set_of n h) text before to (type (types_held before at n)) from

module _ (text : List ℕ) (n h from to at : ℕ) (before : List ℕ) where
  module _ (below : to ≤ at) (work : List ℕ) (i : ℕ) (k : Lists text n h from to at before work i) (work' : List ℕ) (r : Result (Std.Option ℕ) (Fault ℕ))
      (e : list_then (types_held work' at n) r (typeset_at (set_of n h) text work to (type (types_held work' at n))) ≡ typeset_at (set_of n h) text work to (type (types_held work at n)) i) where
    pub lists-turn : (j : ℕ) → r ≡ Ok (Some j) → length work' ≡ length work → take at work' ≡ take at work → Lists text n h from to at before work' j
    unfolding list_then
    lists-turn j is s t =
        record {
          size = s ∙ k.size;
          front = t ∙ k.front;
          rest = sym (at-front n h text work before at k.front to below (type (types_held work' at n)) j) ∙ rw is at e ∙ at-front n h text work before at k.front to below (type (types_held work at n)) i ∙ k.rest;
        }

    pub lists-end : r ≡ Ok None → done (types_held work' at n) ≡ typeset_at (set_of n h) text before to (type (types_held before at n)) from
    unfolding list_then
    lists-end is = rw is at e ∙ at-front n h text work before at k.front to below (type (types_held work at n)) i ∙ k.rest

    pub lists-over : (f : Fault ℕ) → r ≡ Err f → refused f.0 f.1 ≡ typeset_at (set_of n h) text before to (type (types_held before at n)) from
    unfolding list_then
    lists-over f is = rw is at e ∙ at-front n h text work before at k.front to below (type (types_held work at n)) i ∙ k.rest

-- The lists behind a front of work memory that is the same, with the types that are held there.
pub lists-front : (n h : ℕ) (text work before : List ℕ) (at : ℕ) → take at work ≡ take at before → (to : ℕ) → to ≤ at → (us : Types) → types_held work at n ≡ us → (i : ℕ) → typeset_at (set_of n h) text work to (type (types_held work at n)) i ≡ typeset_at (set_of n h) text before to (type us) i
lists-front n h text work before at e to l us is i = at-front n h text work before at e to l (type (types_held work at n)) i ∙ rw is

-- The whole command
pub typeset-whole : (n h : ℕ) (text work : List ℕ) (from to : ℕ) → typeset_at (set_of n h) text work to star from ≡ typeset (record { characters = n; head = h }) (words (range text work from to))
unfolding typeset typeset_at typeset_from set_of
typeset-whole n h text work from to = refl
