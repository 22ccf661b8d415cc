-- A list whose ranges are typed as they are complete stands for the list of the definition. Assumes nothing.
use Rattle.std.specs.Prelude.{Ok, Err, Result, ⊤}
use Rattle.std.proofs.Common.{◌⊎◌, inl, inr}
use Prim.Native.Nat.{ℕ}
use Rattle.assumptions.specs.ListCode.{Stands, Follows}
use Rattle.assumptions.specs.TypesHeld.{unless_twice}
use Rattle.assumptions.specs.declared.characters.Listed as Code
use Rattle.block.specs.CharacterList.{Part, Listed, listed, item_turn, part_turn, with_further, item_end, range}
use Rattle.block.specs.Judged.{judged}
use Rattle.block.specs.Outcome.{Outcome, done, refused, then, need}
use Rattle.block.specs.Typeset.{Types, typed, typed_range, on_types, list_ends}
use Rattle.block.specs.declared.kinds.Further.{Further}
use Rattle.block.specs.declared.kinds.Item.{Item}
use Rattle.block.specs.declared.kinds.Range.{Range}
use Rattle.block.specs.declared.model.CharacterOrdering.{CharacterOrdering}
use Rattle.lexer.specs.declared.refusal.Refusal.{Refusal}
use Rattle.lexer.specs.declared.Fault.{Fault}
use Rattle.lexer.specs.Refusals.{fault}
use mathlib.Core.Bool.{Bool}
use mathlib.Core.List.{List, [], ◌∷◌, ◌++◌}
use mathlib.Core.Option.{Option, none, some}
use mathlib.Core.Path.{◌≡◌, refl, sym, ap, ◌∙◌}
use native.Mathlib.Omega.{arith}

-- One range more, behind the others
typed-more : (o : CharacterOrdering) (rs : List Range) (r : Range) (ts : Types) → typed o (rs ++ (r ∷ [])) ts ≡ on_types (typed o rs ts) (typed_range o r 1)
unfolding typed on_types
typed-more o [] r ts = go (typed_range o r 1 ts)
  where
    go : (x : Option Types) → on_types x (λ us. some us) ≡ x
    go none = refl
    go (some us) = refl
typed-more o (q ∷ rs) r ts = go (typed_range o q 1 ts) (λ us. typed-more o rs r us)
  where
    go : (x : Option Types) → ((us : Types) → typed o (rs ++ (r ∷ [])) us ≡ on_types (typed o rs us) (typed_range o r 1)) → on_types x (λ us. typed o (rs ++ (r ∷ [])) us) ≡ on_types (on_types x (λ us. typed o rs us)) (typed_range o r 1)
    go none more = refl
    go (some us) more = more us

module _ (o : CharacterOrdering) (ts us : Types) (out : Outcome Listed) where
  pub follows_on : {l : Code.Listed} → Stands o ts us l.item l.twice out → Follows o ts us out (Ok l)
  follows_on {l} s =
      record {
        on = λ l' e. let p : l ≡ l' = cc in rw (← p) s;
        over = λ n i e. let z : ◌≡◌ {A = ℕ} 0 1 = cc in absurd (omega arith);
      }

  pub follows-over : {n : Refusal} {i : ℕ} → out ≡ refused n i → Follows o ts us out (Err (fault n i))
  follows-over {n} {i} s =
      record {
        on = λ l e. let z : ◌≡◌ {A = ℕ} 0 1 = cc in absurd (omega arith);
        over = λ n' i' e. let p : fault n i ≡ fault n' i' = cc in rw (← ap (λ (q : Fault ℕ). q.0) p, ← ap (λ (q : Fault ℕ). q.1) p) s;
      }

-- One part more
module _ (count : ℕ) (o : CharacterOrdering) (rs : List Range) (ts us : Types) (m : Item) (v : Bool) (p : Part) (g : typed o rs ts ≡ unless_twice v us) where
  pub part-on : (k : Item) → item_turn count m p ≡ done (Further.On k) → Follows o ts us (part_turn count (listed rs m) p) (Ok (record { item = k; twice = v }))
  unfolding part_turn listed with_further then
  part-on k e = follows_on o ts us (part_turn count (listed rs m) p) (record { ranges = rs; is = rw e; gives = g })

  pub part-past : (r : Range) (k : Item) (v' : Bool) (us' : Types) → item_turn count m p ≡ done (Further.Past r k) → unless_twice v' us' ≡ on_types (unless_twice v us) (typed_range o r 1) → Follows o ts us' (part_turn count (listed rs m) p) (Ok (record { item = k; twice = v' }))
  unfolding part_turn listed with_further then
  part-past r k v' us' e t =
      follows_on o ts us' (part_turn count (listed rs m) p) (record { ranges = rs ++ (r ∷ []); is = rw e; gives = typed-more o rs r ts ∙ rw g (sym t) })

  pub part-over : (n : Refusal) (i : ℕ) → item_turn count m p ≡ refused n i → (us' : Types) → Follows o ts us' (part_turn count (listed rs m) p) (Err (fault n i))
  unfolding part_turn listed then
  part-over n i e us' = follows-over o ts us' (part_turn count (listed rs m) p) (rw e)

-- The end of a list
module _ (o : CharacterOrdering) (word : ℕ) (rs : List Range) (ts us : Types) (v : Bool) (g : typed o rs ts ≡ unless_twice v us) where
  pub end_none : (j : Result ⊤ (Fault ℕ)) → judged us j ≡ need (unless_twice v us) Refusal.TypeSet word → judged us j ≡ list_ends ts o word (listed rs Item.Number)
  unfolding list_ends listed item_end then
  end_none j e = e ∙ rw g

  module _ (f l : ℕ) (us' : Types) (v' : Bool) (j : Result ⊤ (Fault ℕ)) (t : unless_twice v' us' ≡ on_types (unless_twice v us) (typed_range o (range f l 1) 1)) (e : judged us' j ≡ need (unless_twice v' us') Refusal.TypeSet word) where
    last : judged us' j ≡ need (typed o (rs ++ (range f l 1 ∷ [])) ts) Refusal.TypeSet word
    last = e ∙ rw (typed-more o rs (range f l 1) ts, g, t)

    pub end-last : (m : Item) → ((all : Bool) × (i : ℕ) × (m ≡ Item.Single all f l i)) ⊎ ((i : ℕ) × (m ≡ Item.Pair f l i)) → judged us' j ≡ list_ends ts o word (listed rs m)
    unfolding list_ends listed item_end then
    end-last m (inl e) = rw e.2 last
    end-last m (inr e) = rw e.1 last

  pub end-over : (m : Item) (i : ℕ) → ((x : ℕ) × (m ≡ Item.To x i)) ⊎ ((x : ℕ) × (y : ℕ) × (m ≡ Item.By x y i)) → judged us (Err (fault Refusal.CharacterList i)) ≡ list_ends ts o word (listed rs m)
  unfolding judged list_ends listed item_end then
  end-over m i (inl e) = rw e.1
  end-over m i (inr e) = rw e.2
