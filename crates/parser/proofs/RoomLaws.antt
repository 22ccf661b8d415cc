-- Where the types of a set are stored: what the matrix reads from stands in front of it, and they fit. Assumes nothing.
use Rattle.std.proofs.lemmas.Option.{some_pair_parts}
use Rattle.std.specs.Prelude.{Some, None}
use Prim.Native.Nat.{ℕ, ◌+◌, ◌*◌, ◌≤◌}
use Rattle.assumptions.specs.TypesHeld.{types_held}
use Rattle.block.specs.Blocks.{characters_in, with_types}
use Rattle.block.specs.Reading.{Reading}
use Rattle.block.specs.Typeset.{Types}
use Rattle.block.specs.declared.model.CharacterOrdering.{CharacterOrdering}
use Rattle.commands.specs.MatrixHeld.{held, reading_held, types_at}
use Rattle.commands.specs.StateHeld.{matrix_of, types_of}
use Rattle.commands.specs.StatePlaced.{MatrixPlaced, Untyped}
use Rattle.commands.specs.WorkMap.{map_fits, types_place}
use Rattle.commands.specs.declared.state.Held.{Held}
use Rattle.lexer.proofs.Basics.{and_both, and_left, and_right, by-test, pick_first, pick_second}
use Rattle.lexer.specs.Base.{pick}
use Rattle.parser.proofs.HeldLaws.{held-retypes, untyped-kept}
use Rattle.parser.proofs.MapFits.{Fitting, fitting}
use Rattle.parser.specs.TypesRoom.{types_room}
use Rattle.std.specs.Prelude as Std
use borrow.Author.Tests.{not-true}
use lib.ListN.{length, take}
use mathlib.Core.Bool.{Bool, true, false, ◌&&◌, not, true≢false}
use mathlib.Core.List.{List}
use mathlib.Core.Option.{Option, none, some}
use mathlib.Core.Path.{◌≡◌, refl, sym, ap, ◌∙◌}
use native.Mathlib.Omega.{arith}

module _ (size count : ℕ) (matrix : Std.Option Held) where
  pub room-none : matrix ≡ None → Some (count, 0) ≡ types_room size count matrix
  unfolding types_room
  room-none e = rw e

  module _ (h : Held) (read : matrix ≡ Some h) (fits : Bool) (e : fits ≡ map_fits size count h.lines h.taxa h.characters) where
    pub room-few : fits && not h.typed ≡ true → Fitting size count h.lines h.taxa h.characters
    room-few t = fitting size count h.lines h.taxa h.characters (sym e ∙ and_left fits (not h.typed) t)

    pub room_at : (at : ℕ) → at ≡ types_place count h.lines h.taxa h.characters → fits && not h.typed ≡ true → Some (at, h.characters) ≡ types_room size count matrix
    unfolding types_room pick
    room_at at p t = rw (read, p, ← e, t)

    pub room-short : fits && not h.typed ≡ false → None ≡ types_room size count matrix
    unfolding types_room pick
    room-short t = rw (read, ← e, t)

-- There is room from a place on for the types of so many characters: they are those of the matrix; and a store there leaves what it reads as.
pub record Roomy (text : List ℕ) (size count : ℕ) (matrix : Std.Option Held) (at n : ℕ) : Type 0 where
  pub behind : count ≤ at
  pub room : at + n ≤ size
  pub counted : (work front : List ℕ) → characters_in (matrix_of (held text work count) text front matrix) ≡ n
  pub types : (work front : List ℕ) → types_of (held text work count) text front matrix ≡ types_held work at n
  pub kept : (after before f g : List ℕ) → take at after ≡ take at before → matrix_of (held text after count) text f matrix ≡ matrix_of (held text before count) text g matrix

-- what there is room for
given_in : Std.Option (ℕ × ℕ) → Bool
given_in (Some (at, n)) = true
given_in None = false

at-short : (p : ℕ × ℕ) → Some p ≡ None → ⊥
unfolding given_in
at-short p e = true≢false (ap given_in e)

-- no set, and so no type that it reads
types-kept : (d : Option CharacterOrdering) (typed : Bool) (ts us : Types) (r q : Reading) → typed ≡ false → r ≡ q → with_types d (pick typed (some ts) none) r ≡ with_types d (pick typed (some us) none) q
unfolding pick
types-kept d typed ts us r q u e = rw (u, e)

module _ (text : List ℕ) (size count : ℕ) where
  none-roomy : count ≤ size → Roomy text size count None count 0
  unfolding matrix_of characters_in types_of types_held
  none-roomy l =
      record { behind = omega arith; room = omega arith; counted = λ work front. refl; types = λ work front. refl; kept = λ after before f g e. refl }

  read-roomy : (h : Held) → map_fits size count h.lines h.taxa h.characters ≡ true → h.typed ≡ false → Roomy text size count (Some h) (types_place count h.lines h.taxa h.characters) h.characters
  unfolding matrix_of characters_in types_of types_at held reading_held types_place pick
  read-roomy h t u =
      let f = fitting size count h.lines h.taxa h.characters t in
      record {
        behind = omega arith;
        room = omega (arith, f.types);
        counted = λ work front. (held-retypes text work count).counted h;
        types = λ work front. refl;
        kept = λ after before a b e. ap some (types-kept _ h.typed _ _ _ _ u (untyped-kept after before (count + h.lines + 2 * h.taxa + 2 * h.characters) e text count h (omega arith)));
      }

  roomy-from : (matrix : Std.Option Held) (a b at n : ℕ) → Roomy text size count matrix a b → ◌≡◌ {A = Std.Option (ℕ × ℕ)} (Some (a, b)) (Some (at, n)) → Roomy text size count matrix at n
  roomy-from matrix a b at n r e =
      let p = some_pair_parts _ _ _ _ e in
      rw (← p.0, ← p.1) r

  pub roomy : count ≤ size → (matrix : Std.Option Held) (at n : ℕ) → types_room size count matrix ≡ Some (at, n) → Roomy text size count matrix at n
  unfolding types_room
  roomy l None at n e = roomy-from None count 0 at n (none-roomy l) e
  roomy l (Some h) at n e =
      let a = map_fits size count h.lines h.taxa h.characters in
      by-test (a && not h.typed)
      (λ t. roomy-from (Some h) _ _ at n (read-roomy h (and_left a (not h.typed) t) (not-true h.typed (and_right a (not h.typed) t))) (sym (pick_first _ _ _ t) ∙ e))
      (λ f. absurd (at-short (at, n) (sym e ∙ pick_second _ _ _ f)))

  -- There is room for the types of a matrix that is placed and has none.
  pub never-short : (front : List ℕ) → length front ≡ count → (matrix : Std.Option Held) → types_room size count matrix ≡ None → MatrixPlaced text front size matrix → Untyped matrix → ⊥
  unfolding types_room
  never-short front l None e p u = at-short (count, 0) e
  never-short front l (Some h) e p u =
      let fits = map_fits size count h.lines h.taxa h.characters in
      let t : fits ≡ true = rw l at p in
      at-short _ (sym (pick_first (fits && not h.typed) _ _ (and_both t (ap not u))) ∙ e)
