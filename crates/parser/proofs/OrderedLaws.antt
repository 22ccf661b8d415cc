-- Whether a character of a held matrix is ordered: by the types of its set, and by its default type. Assumes nothing.
use Rattle.std.specs.Prelude.{Some, None}
use Prim.Native.Nat.{ℕ, zero, suc, ◌+◌, ◌-◌, ◌≤◌, ◌<◌}
use Rattle.assumptions.proofs.VectorTypes.{types-length}
use Rattle.assumptions.specs.TypesHeld.{type_of, types_held}
use Rattle.lexer.specs.Base.{option_of, pick}
use Rattle.block.specs.Blocks.{has_ordered, is_ordered, retyped, with_types}
use Rattle.block.specs.Reading.{Character, Reading}
use Rattle.block.specs.Typeset.{Types}
use Rattle.block.specs.declared.model.CharacterOrdering.{CharacterOrdering}
use Rattle.commands.specs.MatrixHeld.{reading_held, types_at, untyped_held}
use Rattle.commands.specs.WorkMap.{types_place}
use Rattle.commands.specs.declared.state.Held.{Held}
use Rattle.lexer.proofs.Basics.{and-false}
use Rattle.parser.proofs.HeldLaws.{untyped-length}
use Rattle.parser.specs.ParsedHeld.{types_ordered}
use Rattle.std.specs.Prelude as Std
use borrow.Author.Tests.{lt-ltb}
use lib.Dec.{eqb, ltb}
use lib.ListN.{get_or, length}
use mathlib.Core.Bool.{Bool, true, false, ◌&&◌, ◌||◌}
use mathlib.Core.List.{List, [], ◌∷◌}
use mathlib.Core.Option
use mathlib.Core.Option.{Option, none, some}
use mathlib.Core.Path.{◌≡◌, refl, sym, ap, ◌∙◌}
use native.Mathlib.Omega.{arith}

module _ (default : Std.Option CharacterOrdering) where
  pub given-ordered : (o p : CharacterOrdering) → default ≡ Some o → o ≡ p → is_ordered p ≡ is_ordered (Option.get_or (option_of default) CharacterOrdering.Unordered)
  unfolding option_of
  given-ordered o p d e = rw (d, e)

  pub none-ordered : default ≡ None → false ≡ is_ordered (Option.get_or (option_of default) CharacterOrdering.Unordered)
  unfolding option_of is_ordered
  none-ordered d = rw d

-- A type by its number
number-ordered : (v : ℕ) (o : CharacterOrdering) → is_ordered (Option.get_or (type_of v) o) ≡ ltb 1 v || (eqb v 0 && is_ordered o)
unfolding type_of is_ordered
number-ordered zero o = refl
number-ordered (suc zero) o = refl
number-ordered (suc (suc n)) o = rw (lt-ltb 1 (suc (suc n)) (omega arith))

-- The walk over the types: those up to an index are not ordered.
pub record UnorderedYet (work : List ℕ) (at n : ℕ) (default : Bool) (k : ℕ) : Type 0 where
  pub below : k ≤ n
  pub rest : (o : CharacterOrdering) → default ≡ is_ordered o → types_ordered o (types_held work (at + k) (n - k)) ≡ types_ordered o (types_held work at n)

module _ (work : List ℕ) (at n : ℕ) (default : Bool) where
  module _ (k : ℕ) (y : UnorderedYet work at n default k) where
    -- one type more
    next : k < n → (o : CharacterOrdering) → default ≡ is_ordered o
        → (ltb 1 (get_or work (at + k) 0) || (eqb (get_or work (at + k) 0) 0 && default)) || types_ordered o (types_held work (at + (k + 1)) (n - (k + 1))) ≡ types_ordered o (types_held work at n)
    unfolding types_held types_ordered
    next l o d =
        let more : n - k ≡ suc (n - (k + 1)) = omega arith in
        let there : at + (k + 1) ≡ suc (at + k) = omega arith in
        rw (d, there, ← number-ordered (get_or work (at + k) 0) o) (rw more at (y.rest o d))

    pub yet-turn : k < n → ltb 1 (get_or work (at + k) 0) || (eqb (get_or work (at + k) 0) 0 && default) ≡ false → UnorderedYet work at n default (k + 1)
    yet-turn l f = record { below = omega arith; rest = λ o d. rw f at (next l o d) }

    pub yet-found : k < n → ltb 1 (get_or work (at + k) 0) || (eqb (get_or work (at + k) 0) 0 && default) ≡ true → (o : CharacterOrdering) → default ≡ is_ordered o → true ≡ types_ordered o (types_held work at n)
    yet-found l t o d = rw t at (next l o d)

    pub yet-end : n ≤ k → (o : CharacterOrdering) → default ≡ is_ordered o → false ≡ types_ordered o (types_held work at n)
    unfolding types_held types_ordered
    yet-end l o d = let none : n - k ≡ 0 = omega arith in rw none at (y.rest o d)

-- Characters are ordered by the types of a set, or by the default alone.
set-ordered : (o : CharacterOrdering) (ts : Types) (cs : List Character) → length ts ≡ length cs → has_ordered (retyped o ts cs) ≡ types_ordered o ts
unfolding has_ordered retyped types_ordered
set-ordered o [] [] e = refl
set-ordered o [] (c ∷ cs) e = absurd (omega arith)
set-ordered o (t ∷ ts) [] e = absurd (omega arith)
set-ordered o (t ∷ ts) (c ∷ cs) e = rw (set-ordered o ts cs (omega arith))

or-again : (b x : Bool) → b || (b && x) ≡ b && true
or-again true x = refl
or-again false x = refl

no-set-ordered : (o : CharacterOrdering) (cs : List Character) → has_ordered (retyped o [] cs) ≡ is_ordered o && ltb 0 (length cs)
unfolding has_ordered retyped
no-set-ordered o [] = sym (and-false (is_ordered o))
no-set-ordered o (c ∷ cs) = rw (no-set-ordered o cs, lt-ltb 0 (suc (length cs)) (omega arith)) (or-again (is_ordered o) (ltb 0 (length cs)))

module _ (d : Option CharacterOrdering) (typed : Bool) (ts : Types) (r : Reading) where
  with-set : typed ≡ true → length ts ≡ length r.characters → has_ordered (with_types d (pick typed (some ts) none) r).characters ≡ types_ordered (Option.get_or d CharacterOrdering.Unordered) ts
  unfolding with_types pick
  with-set t e = rw t (set-ordered (Option.get_or d CharacterOrdering.Unordered) ts r.characters e)

  without-set : typed ≡ false → has_ordered (with_types d (pick typed (some ts) none) r).characters ≡ is_ordered (Option.get_or d CharacterOrdering.Unordered) && ltb 0 (length r.characters)
  unfolding with_types pick
  without-set t = rw t (no-set-ordered (Option.get_or d CharacterOrdering.Unordered) r.characters)

module _ (text work : List ℕ) (count : ℕ) (h : Held) (ordered : Bool) (ordered_is : ordered ≡ is_ordered (Option.get_or (option_of h.default) CharacterOrdering.Unordered)) where
  pub typed-ordered : (at : ℕ) (r : Bool) → h.typed ≡ true → at ≡ types_place count h.lines h.taxa h.characters
      → ((o : CharacterOrdering) → ordered ≡ is_ordered o → r ≡ types_ordered o (types_held work at h.characters))
      → r ≡ has_ordered (reading_held text work count h).characters
  unfolding reading_held types_at
  typed-ordered at r t place found =
      let ts = types_held work (types_place count h.lines h.taxa h.characters) h.characters in
      let here : r ≡ types_ordered (Option.get_or (option_of h.default) CharacterOrdering.Unordered) ts = rw place at (found _ ordered_is) in
      here ∙ sym (with-set (option_of h.default) h.typed ts (untyped_held text work count h) t (types-length work _ h.characters ∙ sym (untyped-length text work count h)))

  pub untyped-ordered : h.typed ≡ false → ordered && ltb 0 h.characters ≡ has_ordered (reading_held text work count h).characters
  unfolding reading_held
  untyped-ordered t =
      ap (λ b. b && ltb 0 h.characters) ordered_is
      ∙ ap (λ n. is_ordered (Option.get_or (option_of h.default) CharacterOrdering.Unordered) && ltb 0 n) (sym (untyped-length text work count h))
      ∙ sym (without-set (option_of h.default) h.typed (types_at text work count h) (untyped_held text work count h) t)
