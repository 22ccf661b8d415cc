-- The walk over the parts of a word of a list. Assumes nothing.
use Rattle.std.specs.Prelude.{Ok, Err, Result}
use Prim.Native.Nat.{ℕ}
use Rattle.assumptions.proofs.ListTyped.{follows_on, follows-over}
use Rattle.assumptions.specs.ListCode.{Follows}
use Rattle.assumptions.specs.ListParts.{PartedHere, first_part, told}
use Rattle.assumptions.specs.TypesHeld.{unless_twice, types_held}
use Rattle.assumptions.specs.declared.characters.Listed as Made
use Rattle.assumptions.specs.declared.parts.Part as Code
use Rattle.block.specs.CharacterList.{Part, part, parts, cut_from, Listed, listed, part_turn, list_turn}
use Rattle.block.specs.Outcome.{Outcome, then, fold}
use Rattle.block.specs.Typeset.{Types, typed}
use Rattle.block.specs.declared.kinds.Item.{Item}
use Rattle.block.specs.declared.kinds.Range.{Range}
use Rattle.block.specs.declared.model.CharacterOrdering.{CharacterOrdering}
use Rattle.lexer.specs.Base.{pick}
use Rattle.lexer.specs.Bytes.{left}
use Rattle.lexer.specs.Words.{Numbered, is_word}
use Rattle.lexer.specs.declared.Cursor.{Cursor}
use Rattle.lexer.specs.declared.refusal.Refusal.{Refusal}
use Rattle.lexer.specs.declared.Fault.{Fault}
use Rattle.lexer.specs.Refusals.{fault}
use lib.ListN.{length, take}
use mathlib.Core.Bool.{Bool, true, false}
use mathlib.Core.List.{List, []}
use mathlib.Core.Path.{◌≡◌, refl, sym, ◌∙◌}

-- A list with some ranges, from which the parts still to come lead to what the word comes to.
pub record Cut (text : List ℕ) (w : Numbered) (count : ℕ) (o : CharacterOrdering) (ts us : Types) (whole : Outcome Listed) (m : Item) (twice : Bool) (c : Cursor) : Type 0 where
  pub ranges : List Range
  pub rest : fold (part_turn count) (listed ranges m) (cut_from w false (left text c)) ≡ whole
  pub gives : typed o ranges ts ≡ unless_twice twice us

pub record Cutting (text : List ℕ) (w : Numbered) (at count : ℕ) (o : CharacterOrdering) (before : List ℕ) (m₀ : Item) (twice₀ : Bool) (work : List ℕ) (c : Cursor) (m : Item) (twice : Bool) : Type 0 where
  pub size : length work ≡ length before
  pub front : take at work ≡ take at before
  pub cut : (rs : List Range) (ts : Types) → typed o rs ts ≡ unless_twice twice₀ (types_held before at count) → Cut text w count o ts (types_held work at count) (list_turn count (listed rs m₀) w) m twice c

module _ (text : List ℕ) (w : Numbered) (at count : ℕ) (o : CharacterOrdering) (before : List ℕ) (m₀ : Item) (twice₀ : Bool) where
  pub cutting-start : (c : Cursor) → is_word w.token.kind ≡ true → left text c ≡ w.token.text → Cutting text w at count o before m₀ twice₀ before c m₀ twice₀
  unfolding list_turn parts pick
  cutting-start c h e = record { size = refl; front = refl; cut = λ rs ts g. record { ranges = rs; rest = sym (rw (h, ← e)); gives = g } }

  module _ (work : List ℕ) (c : Cursor) (m : Item) (twice : Bool) (k : Cutting text w at count o before m₀ twice₀ work c m twice) where
    -- behind one part more
    module _ (q : Code.Part) (d : Cursor) (y : PartedHere text count w c q d) (work' : List ℕ) (r : Result Made.Listed (Fault ℕ))
        (f : (p : Part) → q ≡ told count p → (rs : List Range) (ts : Types) → typed o rs ts ≡ unless_twice twice (types_held work at count) → Follows o ts (types_held work' at count) (part_turn count (listed rs m) p) r) where
      pub cutting-turn : length work' ≡ length work → take at work' ≡ take at work → (l : Made.Listed) → r ≡ Ok l → Cutting text w at count o before m₀ twice₀ work' d l.item l.twice
      unfolding fold then
      cutting-turn s t l e =
          record {
            size = s ∙ k.size;
            front = t ∙ k.front;
            cut =
                λ rs ts g.
                let now = k.cut rs ts g in
                let next = (f (part w (first_part (left text c))) y.tests now.ranges ts now.gives).on l e in
                record { ranges = next.ranges; rest = rw (y.here, next.is) at now.rest; gives = next.gives };
          }

      pub cutting-over : (n : Refusal) (i : ℕ) → r ≡ Err (fault n i) → (rs : List Range) (ts : Types) → typed o rs ts ≡ unless_twice twice₀ (types_held before at count) → Follows o ts (types_held work' at count) (list_turn count (listed rs m₀) w) (Err (fault n i))
      unfolding fold then
      cutting-over n i e rs ts g =
          let now = k.cut rs ts g in
          let next = (f (part w (first_part (left text c))) y.tests now.ranges ts now.gives).over n i e in
          follows-over o ts (types_held work' at count) (list_turn count (listed rs m₀) w) (sym (rw (y.here, next) at now.rest))

    pub cutting-end : cut_from w false (left text c) ≡ [] → (rs : List Range) (ts : Types) → typed o rs ts ≡ unless_twice twice₀ (types_held before at count) → Follows o ts (types_held work at count) (list_turn count (listed rs m₀) w) (Ok (record { item = m; twice = twice }))
    unfolding fold
    cutting-end e rs ts g =
        let now = k.cut rs ts g in
        follows_on o ts (types_held work at count) (list_turn count (listed rs m₀) w) (record { ranges = now.ranges; is = sym (rw e at now.rest); gives = now.gives })
