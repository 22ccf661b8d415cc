-- The states of a set by their marks, one after another, and the pieces that they are put as. Assumes nothing.
use Prim.Native.Nat.{ℕ, ◌+◌, ◌≤◌, ◌<◌}
use Rattle.block.specs.Chunk.{set_cell}
use Rattle.block.specs.declared.kinds.Bracket.{Bracket}
use Rattle.emit.proofs.PutLaws.{puts-as, puts_none, puts_then}
use Rattle.emit.specs.Puts.{Puts}
use Rattle.lexer.proofs.ListLaws.{drop-next}
use Rattle.lexer.specs.Base.{pick}
use Rattle.reading.specs.CodedCells.{dotted_on, members}
use Rattle.record.specs.Decimal.{decimal}
use Rattle.record.specs.Spell.{dotted, spell_cell}
use borrow.Author.Tests.{eq-eqb, ne_eqb}
use lib.ListN.{length, get_or, drop, drop_of_length-le}
use mathlib.Core.Bool.{Bool, true, false}
use mathlib.Core.List.{List, [], ◌∷◌, ◌++◌, append_assoc}
use mathlib.Core.Path.{◌≡◌, refl, ap}
use native.Mathlib.Numerals.{add-one}

-- The members from a state on: the state itself, if its mark is not 0, and those behind it.
module _ (set : List ℕ) (i : ℕ) (h : i < length set) where
  members-next : (get_or set i 0 ≡ 0 → ⊥) → members i (drop i set) ≡ i ∷ members (i + 1) (drop (i + 1) set)
  unfolding members pick
  members-next ne = rw (drop-next set i h, ne_eqb (get_or set i 0) 0 ne, add-one i)

  members-skip : get_or set i 0 ≡ 0 → members i (drop i set) ≡ members (i + 1) (drop (i + 1) set)
  unfolding members pick
  members-skip e = rw (drop-next set i h, eq-eqb (get_or set i 0) 0 e, add-one i)

-- Whatever puts the members from a state on makes the whole set put.
abbrev pub MembersLeft : List ℕ → ℕ → List ℕ → List ℕ → ℕ → Bool → ℕ → Type 0
MembersLeft before n set buffer at begun i =
    (after : List ℕ) (next : ℕ) → Puts buffer at (dotted_on begun (members i (drop i set))) after next → Puts before n (dotted_on false (members 0 set)) after next

module _ {before : List ℕ} {n : ℕ} (set : List ℕ) {buffer : List ℕ} {at : ℕ} (begun : Bool) (i : ℕ) (k : MembersLeft before n set buffer at begun i) where
  pub left-put : {b : List ℕ} {m : ℕ} → i < length set → (get_or set i 0 ≡ 0 → ⊥) → Puts buffer at (dotted_on begun (i ∷ [])) b m → MembersLeft before n set b m true (i + 1)
  unfolding dotted_on pick
  left-put h ne p after next q = k after next (rw (members-next set i h ne) (puts-as (puts_then p q) (λ behind. go begun behind)))
    where
      rest : List ℕ
      rest = members (i + 1) (drop (i + 1) set)

      go : (b : Bool) (behind : List ℕ) → dotted_on b (i ∷ []) (dotted_on true rest behind) ≡ dotted_on b (i ∷ rest) behind
      go true behind = refl
      go false behind = refl

  pub left-skipped : i < length set → get_or set i 0 ≡ 0 → MembersLeft before n set buffer at begun (i + 1)
  left-skipped h e after next q = k after next (rw (members-skip set i h e) q)

  pub left_end : length set ≤ i → Puts before n (dotted_on false (members 0 set)) buffer at
  unfolding members dotted_on
  left_end h = k buffer at (rw (drop_of_length-le set h) puts_none)

-- A set is its letter and its states.
dotted-on : (l behind : List ℕ) → dotted_on false l behind ≡ dotted l ++ behind
unfolding dotted_on dotted pick
dotted-on [] behind = refl
dotted-on (i ∷ []) behind = refl
dotted-on (i ∷ j ∷ r) behind = rw (append_assoc (decimal i) (46 ∷ dotted (j ∷ r)) behind, ← dotted-on (j ∷ r) behind)

module _ {a b c : List ℕ} {n m k : ℕ} (s : List ℕ) (kind : Bracket) (q : Puts b m (dotted_on false s) c k) where
  pub brace-put : kind ≡ Bracket.Brace → Puts a n (λ behind. 117 ∷ behind) b m → Puts a n (λ behind. spell_cell (set_cell kind s) ++ behind) c k
  unfolding spell_cell set_cell
  brace-put e p = rw e (puts-as (puts_then p q) (λ behind. ap (λ l. 117 ∷ l) (dotted-on s behind)))

  pub parenthesis-put : kind ≡ Bracket.Parenthesis → Puts a n (λ behind. 112 ∷ behind) b m → Puts a n (λ behind. spell_cell (set_cell kind s) ++ behind) c k
  unfolding spell_cell set_cell
  parenthesis-put e p = rw e (puts-as (puts_then p q) (λ behind. ap (λ l. 112 ∷ l) (dotted-on s behind)))
