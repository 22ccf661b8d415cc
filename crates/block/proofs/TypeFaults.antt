-- What TYPESET refuses, and which of its words it names. Assumes nothing.
use Prim.Native.Nat.{ℕ, zero, suc}
use Rattle.block.proofs.Faulted.{Faults, Ends, gives, refuses, either, both, needed, come, then-ends, fold-ends}
use Rattle.block.proofs.OutcomeLaws.{All, Any, Opt}
use Rattle.block.specs.CharacterList.{Part, part, cut_from, parts, is_dash, is_stride, is_all, character_number, range, first_number, first_item, next_item, last_number, stride_number, item_turn, Listed, listed, with_further, part_turn, list_turn, item_end}
use Rattle.block.specs.Outcome.{done, fold}
use Rattle.block.specs.Typeset.{ordering, Types, typed, Typing, star, name, named, form, close, equals, types, type, colon, begin, list, Typeset, name_word, equals_word, vector_word, list_ends, list_word, typeset_turn, vector_end, typeset_end, typeset}
use Rattle.block.specs.declared.kinds.Form.{Form}
use Rattle.block.specs.declared.kinds.Further.{Further}
use Rattle.block.specs.declared.kinds.Item.{Item}
use Rattle.block.specs.declared.kinds.Range.{Range}
use Rattle.block.specs.declared.model.CharacterOrdering.{CharacterOrdering}
use Rattle.lexer.proofs.Basics.{chosen}
use Rattle.lexer.specs.Base.{bytes, byte}
use Rattle.lexer.specs.Words.{Numbered, label, number, is, punct, is_word}
use Rattle.lexer.specs.declared.refusal.Refusal.{Refusal}
use lib.Dec.{ltb, eqb}
use lib.ListN.{length}
use mathlib.Core.Bool.{Bool, true, false}
use mathlib.Core.List.{List, [], ◌∷◌}
use mathlib.Core.Option.{Option, none, some}
use mathlib.Core.Path.{◌≡◌}

-- A word of TYPESET: 27 and 28 at any, 17 at one that is no name.
pub record TypeFaults (R : Faults) (w : Numbered) : Type 0 where
  pub set : R Refusal.TypeSet w.index
  pub list : R Refusal.CharacterList w.index
  pub unnamed : label w ≡ none → R Refusal.NotName w.index

module _ (R : Faults) where
  -- A part of a list is refused at its word.
  abbrev PartFault : Part → Type 0
  PartFault p = R Refusal.CharacterList p.word.index

  cut-faults : (w : Numbered) (begun : Bool) (text : List ℕ) → R Refusal.CharacterList w.index → All PartFault (cut_from w begun text)
  unfolding cut_from part
  cut-faults w begun [] r = tt
  cut-faults w false (b ∷ text) r = chosen (All PartFault) (eqb b (byte "-")) (λ e. (r, cut-faults w false text r)) (λ e. (r, cut-faults w true text r))
  cut-faults w true (b ∷ text) r = chosen (All PartFault) (eqb b (byte "-")) (λ e. (r, cut-faults w false text r)) (λ e. cut-faults w true text r)

  parts-faults : (w : Numbered) → R Refusal.CharacterList w.index → All PartFault (parts w)
  unfolding parts part
  parts-faults w r = chosen (All PartFault) (is_word w.token.kind) (λ e. cut-faults w false w.token.text r) (λ e. (r, tt))

  -- A range may be refused at its first number.
  abbrev Ranging : Item → Type 0
  Ranging Item.Number = Unit {0}
  Ranging (Item.Single all f l i) = R Refusal.CharacterList i
  Ranging (Item.To f i) = R Refusal.CharacterList i
  Ranging (Item.Pair f l i) = R Refusal.CharacterList i
  Ranging (Item.By f l i) = R Refusal.CharacterList i

  abbrev Going : Further → Type 0
  Going (Further.On m) = Ranging m
  Going (Further.Past r m) = Ranging m

  first-number-faults : (p : Part) (n : ℕ) → PartFault p → Ends R Ranging (first_number p n)
  unfolding first_number
  first-number-faults p zero r = refuses r
  first-number-faults p (suc n) r = gives r

  first-faults : (count : ℕ) (p : Part) → PartFault p → Ends R Ranging (first_item count p)
  unfolding first_item
  first-faults count p r = both R (is_all p) (gives r) (first-number-faults p (character_number count p) r)

  next-faults : (count : ℕ) (g : Range) (p : Part) → PartFault p → Ends R Going (next_item count g p)
  unfolding next_item
  next-faults count g p r = then-ends R (first-faults count p r) (λ m e. gives e)

  last-faults : (f i : ℕ) (p : Part) (n : ℕ) → R Refusal.CharacterList i → PartFault p → Ends R Going (last_number f i p n)
  unfolding last_number
  last-faults f i p zero s r = refuses r
  last-faults f i p (suc n) s r = both R (ltb (suc n) f) (refuses s) (gives s)

  stride-faults : (f l : ℕ) (p : Part) (n : ℕ) → PartFault p → Ends R Going (stride_number f l p n)
  unfolding stride_number
  stride-faults f l p zero r = refuses r
  stride-faults f l p (suc n) r = gives tt

  item-faults : (count : ℕ) (m : Item) (p : Part) → Ranging m → PartFault p → Ends R Going (item_turn count m p)
  unfolding item_turn
  item-faults count Item.Number p s r = then-ends R (first-faults count p r) (λ m e. gives e)
  item-faults count (Item.Single all f l i) p s r =
      both R (is_dash p) (both R all (refuses s) (gives s)) (both R (is_stride p) (gives s) (next-faults count (range f l 1) p r))
  item-faults count (Item.To f i) p s r = last-faults f i p (character_number count p) s r
  item-faults count (Item.Pair f l i) p s r = both R (is_stride p) (gives s) (next-faults count (range f l 1) p r)
  item-faults count (Item.By f l i) p s r = stride-faults f l p (number p.own) r

  abbrev Listing : Listed → Type 0
  Listing l = Ranging l.item

  further-going : (rs : List Range) (n : Further) → Going n → Listing (with_further rs n)
  unfolding with_further listed
  further-going rs (Further.On m) g = g
  further-going rs (Further.Past r m) g = g

  list-turn-faults : (count : ℕ) (l : Listed) (w : Numbered) → Listing l → R Refusal.CharacterList w.index → Ends R Listing (list_turn count l w)
  unfolding list_turn part_turn
  list-turn-faults count l w s r =
      fold-ends R Listing PartFault (part_turn count) (λ k p e f. then-ends R (item-faults count k.item p e f) (λ n g. gives (further-going k.ranges n g))) l (parts w) s (parts-faults w r)

  item-end-faults : (rs : List Range) (m : Item) → Ranging m → Ends R Any (item_end rs m)
  unfolding item_end
  item-end-faults rs Item.Number s = gives tt
  item-end-faults rs (Item.Single all f l i) s = gives tt
  item-end-faults rs (Item.To f i) s = refuses s
  item-end-faults rs (Item.Pair f l i) s = gives tt
  item-end-faults rs (Item.By f l i) s = refuses s

  -- The form's word, the first wrong word of a VECTOR, the type word of a list: each may be refused.
  abbrev Typed : Typing → Type 0
  Typed star = Unit {0}
  Typed name = Unit {0}
  Typed named = Unit {0}
  Typed form = Unit {0}
  Typed (close f i) = R Refusal.TypeSet i
  Typed (equals f) = Unit {0}
  Typed (types ts bad) = Opt (R Refusal.TypeSet) bad
  Typed (type ts) = Unit {0}
  Typed (colon ts o i) = R Refusal.TypeSet i × R Refusal.CharacterList i
  Typed (begin ts o i) = R Refusal.TypeSet i × R Refusal.CharacterList i
  Typed (list ts o i l) = R Refusal.TypeSet i × Listing l

  module _ (t : Typeset) (head : R Refusal.TypeSet t.head) where
    name-word-faults : (w : Numbered) → TypeFaults R w → Ends R Typed (name_word w)
    unfolding name_word
    name-word-faults w q = then-ends R {P = Any} (needed R (label w) Refusal.NotName w.index q.unnamed (λ n e. tt)) (λ n e. gives tt)

    equals-faults : (f : Form) (w : Numbered) → Ends R Typed (equals_word t f w)
    unfolding equals_word
    equals-faults Form.Standard w = both R (punct (byte "=") w) (gives tt) (refuses head)
    equals-faults Form.Vector w = both R (punct (byte "=") w) (gives tt) (refuses head)

    vector-faults : (ts : Types) (bad : Option ℕ) (w : Numbered) (o : Option CharacterOrdering) → Opt (R Refusal.TypeSet) bad → TypeFaults R w → Typed (vector_word ts bad w o)
    unfolding vector_word
    vector-faults ts (some i) w o p q = p
    vector-faults ts none w none p q = q.set
    vector-faults ts none w (some o) p q = tt

    list-ends-faults : (ts : Types) (o : CharacterOrdering) (i : ℕ) (l : Listed) → R Refusal.TypeSet i → Listing l → Ends R Any (list_ends ts o i l)
    unfolding list_ends
    list-ends-faults ts o i l r s =
        then-ends R (item-end-faults l.ranges l.item s) (λ rs e. needed R (typed o rs ts) Refusal.TypeSet i (λ n. r) (λ u n. tt))

    list-word-faults : (ts : Types) (o : CharacterOrdering) (i : ℕ) (l : Listed) (w : Numbered) → R Refusal.TypeSet i → Listing l → TypeFaults R w → Ends R Typed (list_word t ts o i l w)
    unfolding list_word
    list-word-faults ts o i l w r s q =
        both R (punct (byte ",") w) (then-ends R (list-ends-faults ts o i l r s) (λ us e. gives tt))
        (then-ends R (list-turn-faults t.characters l w s q.list) (λ m e. gives (r, e)))

    turn-faults : (m : Typing) (w : Numbered) → Typed m → TypeFaults R w → Ends R Typed (typeset_turn t m w)
    unfolding typeset_turn listed
    turn-faults star w p q = both R (punct (byte "*") w) (gives tt) (name-word-faults w q)
    turn-faults name w p q = name-word-faults w q
    turn-faults named w p q = both R (punct (byte "(") w) (gives tt) (equals-faults Form.Standard w)
    turn-faults form w p q = both R (is (bytes "VECTOR") w) (gives q.set) (both R (is (bytes "STANDARD") w) (gives q.set) (refuses q.set))
    turn-faults (close f i) w p q = both R (punct (byte ")") w) (gives tt) (refuses p)
    turn-faults (equals f) w p q = equals-faults f w
    turn-faults (types ts bad) w p q = gives (vector-faults ts bad w (ordering w) p q)
    turn-faults (type ts) w p q =
        then-ends R {P = Any} (needed R (ordering w) Refusal.TypeSet w.index (λ e. q.set) (λ o e. tt)) (λ o e. gives (q.set, q.list))
    turn-faults (colon ts o i) w p q = both R (punct (byte ":") w) (gives p) (refuses p.0)
    turn-faults (begin ts o i) w p q =
        both R (punct (byte ",") w) (refuses p.1) (list-word-faults ts o i (listed [] Item.Number) w p.0 tt q)
    turn-faults (list ts o i l) w p q = list-word-faults ts o i l w p.0 p.1 q

    -- 16 where a VECTOR has types for more or fewer characters.
    abbrev Counted : Types → Type 0
    Counted ts = eqb (length ts) t.characters ≡ false → R Refusal.Count t.head

    vector-end-faults : (ts : Types) (bad : Option ℕ) → Counted ts → Opt (R Refusal.TypeSet) bad → Ends R Any (vector_end t ts bad)
    unfolding vector_end
    vector-end-faults [] bad c p = refuses head
    vector-end-faults (o ∷ ts) none c p = either R (eqb (length (o ∷ ts)) t.characters) (λ e. gives tt) (λ e. refuses (c e))
    vector-end-faults (o ∷ ts) (some i) c p = either R (eqb (length (o ∷ ts)) t.characters) (λ e. refuses p) (λ e. refuses (c e))

    module _ (ws : List Numbered) (count : (ts : Types) (bad : Option ℕ) → fold (typeset_turn t) star ws ≡ done (types ts bad) → Counted ts) where
      end-faults : (m : Typing) → Typed m → fold (typeset_turn t) star ws ≡ done m → Ends R Any (typeset_end t m)
      unfolding typeset_end
      end-faults star p e = refuses head
      end-faults name p e = refuses head
      end-faults named p e = refuses head
      end-faults form p e = refuses head
      end-faults (close f i) p e = refuses p
      end-faults (equals f) p e = refuses head
      end-faults (types ts bad) p e = vector-end-faults ts bad (count ts bad e) p
      end-faults (type ts) p e = refuses head
      end-faults (colon ts o i) p e = refuses p.0
      end-faults (begin ts o i) p e = refuses p.1
      end-faults (list ts o i l) p e = list-ends-faults ts o i l p.0 p.1

      pub typeset-faults : All (TypeFaults R) ws → Ends R Any (typeset t ws)
      unfolding typeset
      typeset-faults q = then-ends R (come R (fold-ends R Typed (TypeFaults R) (typeset_turn t) turn-faults star ws tt q)) (λ m k. end-faults m k.0 k.1)
