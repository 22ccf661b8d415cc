-- Lines at some places, and a search among them: by their order, and by the slots of a table. Assumes nothing.
use Prim.Native.Nat.{ℕ, zero, suc, ◌+◌, ◌*◌, ◌-◌, ◌%◌, ◌≤◌, ◌<◌}
use Rattle.block.specs.Names.{known}
use Rattle.lexer.proofs.Basics.{by-test, not-both, or-first, or-second, or-both, or_left, or_right}
use Rattle.lexer.specs.Base.{pick, alike, lower}
use Rattle.naming.proofs.LineLaws.{before-end, line-ended, line-more, lower-mark}
use Rattle.naming.specs.Entries.{lines_at, LinesKept, LineSought, RoomFor, SlotLike, LineEntered, line_slot}
use Rattle.std.specs.List.{list_any}
use Rattle.naming.specs.Lines.{line_at}
use Rattle.slots.proofs.FillingLaws.{kept_next, none_kept}
use Rattle.slots.proofs.HashLaws.{alike-hash}
use Rattle.slots.specs.Filling.{Filled}
use Rattle.slots.specs.Hashes.{mixed, hash_from, hash}
use Rattle.slots.specs.declared.Table.{Table}
use borrow.Author.Tests.{eqb-true, eqb-false, ltb-true, ltb-false}
use lib.Dec.{eqb, ltb, lit<}
use lib.ListN.{length, get_or, take, set, length-set}
use lib.Seq.{get_or-take, get_or-set_same, get_or-set_other, length-take-le, take-suc-set}
use mathlib.Core.Bool.{Bool, true, false, ◌||◌, false≢true}
use mathlib.Core.List.{List, [], ◌∷◌}
use mathlib.Core.Path.{◌≡◌, refl, sym, ap, ◌∙◌}
use native.Mathlib.Nat.{mod-lt}
use native.Mathlib.Numerals.{add-one}
use native.Mathlib.Omega.{arith}

-- The number of what is left of a line, behind that of its front, is the number of all of it.
pub record Hashing (b : List ℕ) (at i h : ℕ) : Type 0 where
  pub small : h < 4294967296
  pub rest : hash_from h (line_at b i) ≡ hash (line_at b at)

module _ (b : List ℕ) (at : ℕ) where
  pub hashing-start : Hashing b at at 0
  unfolding hash
  hashing-start = record { small = omega arith; rest = refl }

  module _ (i h : ℕ) (k : Hashing b at i h) {x : ℕ} (is : x ≡ lower (get_or b i 10)) where
    pub hashing-end : x ≡ 10 → h ≡ hash (line_at b at)
    unfolding hash_from
    hashing-end ten =
        let end : line_at b i ≡ [] = line-ended b i (lower-mark (get_or b i 10) 10 (lit< tt) (sym is ∙ ten)) in
        let left : h ≡ hash_from h (line_at b i) = sym (rw end) in
        left ∙ k.rest

    module _ (other : x ≡ 10 → ⊥) where
      no_end : get_or b i 10 ≡ 10 → ⊥
      unfolding lower pick
      no_end ten = other (is ∙ ap lower ten)

      pub hashing-within : i < length b
      hashing-within = before-end b i no_end

      pub hashing-turn : Hashing b at (i + 1) ((h + x) * 2654435761 % 4294967296)
      unfolding hash_from mixed
      hashing-turn = record { small = mod-lt _ (omega arith); rest = rw is (sym (rw (line-more b i no_end)) ∙ k.rest) }

-- A line is known among those at some places exactly where it is like one of them.
module _ (b n : List ℕ) where
  pub known-hit : (ps : List ℕ) (k : ℕ) → k < length ps → alike n (line_at b (get_or ps k 0)) ≡ true → known n (lines_at b ps) ≡ true
  unfolding known lines_at
  known-hit [] k h a = absurd (omega arith)
  known-hit (p ∷ ps) zero h a = or-first _ (known n (lines_at b ps)) a
  known-hit (p ∷ ps) (suc k) h a = or-second (alike n (line_at b p)) _ (known-hit ps k (omega arith) a)

  pub known-miss : (ps : List ℕ) → ((k : ℕ) → k < length ps → alike n (line_at b (get_or ps k 0)) ≡ false) → known n (lines_at b ps) ≡ false
  unfolding known lines_at
  known-miss [] none = refl
  known-miss (p ∷ ps) none = or-both (none 0 (omega arith)) (known-miss ps (λ k h. none (suc k) (omega arith)))

-- A line is among those at some places where one of them is like it.
pub any-known : (b n ps : List ℕ) → list_any (λ p. alike n (line_at b p)) ps ≡ known n (lines_at b ps)
unfolding known lines_at
any-known b n [] = refl
any-known b n (p ∷ ps) = rw (any-known b n ps)

module _ (b : List ℕ) (at : ℕ) (places : List ℕ) (count : ℕ) (room : count ≤ length places) where
  entries : length (take count places) ≡ count
  entries = length-take-le count places room

  -- The number in a slot, with 1 taken away, is none of so many; or it is, and its line is compared.
  pub slot-none : (value : ℕ) → eqb value 0 || ltb count value ≡ true → SlotLike b at (take count places) value false
  slot-none value out =
      record {
        hit = λ t. absurd (false≢true t);
        miss = λ _ k is h. by-test (eqb value 0)
            (λ z. absurd (omega (arith, eqb-true value 0 z)))
            (λ z. absurd (omega (arith, entries, ltb-true count value (rw z at out))));
      }

  module _ (value : ℕ) (inside : eqb value 0 || ltb count value ≡ false) where
    pub slot-number : (1 ≤ value) × (value ≤ count)
    slot-number =
        let z = eqb-false value 0 (or_left (eqb value 0) _ inside) in
        (omega (arith, z), ltb-false count value (or_right (eqb value 0) _ inside))

    slot-entry : get_or (take count places) (value - 1) 0 ≡ get_or places (value - 1) 0
    slot-entry = get_or-take count places (value - 1) 0 (omega (arith, slot-number.0, slot-number.1))

    pub slot-compared : (r : Bool) → r ≡ alike (line_at b at) (line_at b (get_or places (value - 1) 0)) → SlotLike b at (take count places) value r
    slot-compared r e =
        let same : alike (line_at b at) (line_at b (get_or (take count places) (value - 1) 0)) ≡ r = rw slot-entry (sym e) in
        record {
          hit = λ t. known-hit b (line_at b at) (take count places) (value - 1) (omega (arith, entries, slot-number.0, slot-number.1)) (same ∙ t);
          miss = λ f k is h. let k-is : k ≡ value - 1 = omega arith in rw k-is (same ∙ f);
        }

-- A search passes the slots one by one.
module _ (b : List ℕ) (at : ℕ) (slots places : List ℕ) (count p end : ℕ) (s : LineSought b at slots places count p end) where
  pub sought-found : {v : ℕ} {r : Bool} → SlotLike b at (take count places) v r → r ≡ true → true ≡ known (line_at b at) (lines_at b (take count places))
  sought-found like t = sym (like.hit t)

  module _ (h : p < end) {v : ℕ} (is : v ≡ get_or slots p 0) where
    pub sought-turn : {r : Bool} → SlotLike b at (take count places) v r → r ≡ false → LineSought b at slots places count (p + 1) end
    sought-turn like f =
        record {
          room = s.room;
          kept = λ k l a.
              kept_next slots p end (k + 1) h
              (λ e. not-both (rw (get_or-take count places k 0 l) at (like.miss f k (is ∙ e) (omega (arith, entries b at places count s.room)))) a)
              (s.kept k l a);
        }

    pub sought-none : v ≡ 0 → false ≡ known (line_at b at) (lines_at b (take count places))
    sought-none z =
        sym (known-miss b (line_at b at) (take count places)
        (λ k l.
        let below : k < count = omega (arith, entries b at places count s.room) in
        rw (get_or-take count places k 0 below)
        (by-test (alike (line_at b at) (line_at b (get_or places k 0)))
        (λ a. absurd (none_kept slots p end (k + 1) h (sym is ∙ z) (omega arith) (s.kept k below a)))
        (λ o. o))))

-- A line is sought from its slot on where a table has the lines at so many places.
pub line-sought : (b : List ℕ) (at : ℕ) (slots places : List ℕ) (count : ℕ) (t : Table) → count ≤ length places → LinesKept b slots (take count places) t → {from : ℕ}
    → from ≡ line_slot t (hash (line_at b at)) → LineSought b at slots places count from t.end
line-sought b at slots places count t room kept {from} slot =
    record {
      room = room;
      kept = λ k h a.
          let entry : get_or (take count places) k 0 ≡ get_or places k 0 = get_or-take count places k 0 h in
          let held = kept.each k (omega (arith, entries b at places count room)) in
          rw (slot, alike-hash (line_at b at) (line_at b (get_or places k 0)) a) (rw entry at held);
    }

-- A line is entered at its slot.
module _ (b : List ℕ) (at : ℕ) (slots places : List ℕ) (count : ℕ) (t : Table) (room : RoomFor b slots places count t) (from : ℕ)
    (slot : from ≡ line_slot t (hash (line_at b at))) where
  pub line_known : {r : Bool} → r ≡ known (line_at b at) (lines_at b (take count places)) → r ≡ true → LineEntered b at slots slots places places count t true
  line_known told y =
      record {
        size = refl;
        room = refl;
        told = sym y ∙ told;
        more = λ f. absurd (false≢true (sym f));
        kept = λ f. absurd (false≢true (sym f));
      }

  module _ (after : List ℕ) (filled : Filled slots after from t.end (count + 1)) where
    entered-last : get_or (take (count + 1) (set places count at)) count 0 ≡ at
    entered-last = get_or-take (count + 1) (set places count at) count 0 (omega arith) ∙ get_or-set_same places count at 0 room.room

    entered-other : (k : ℕ) → k < count → get_or (take (count + 1) (set places count at)) k 0 ≡ get_or (take count places) k 0
    entered-other k h =
        get_or-take (count + 1) (set places count at) k 0 (omega arith)
        ∙ get_or-set_other places count k at 0 (λ e. omega arith)
        ∙ sym (get_or-take count places k 0 h)

    entered-count : length (take (count + 1) (set places count at)) ≡ count + 1
    entered-count = length-take-le (count + 1) (set places count at) (omega (arith, length-set places count at, room.room))

    kept_more : LinesKept b after (take (count + 1) (set places count at)) t
    kept_more =
        record {
          each = λ k h. by-test (ltb k count)
              (λ l.
              let below = ltb-true k count l in
              rw (entered-other k below)
              (filled.old _ (k + 1) (omega arith) (room.kept.each k (omega (arith, entries b at places count (omega (arith, room.room)))))))
              (λ l.
              let last : k ≡ count = omega (arith, ltb-false k count l, entered-count) in
              rw (last, entered-last, ← slot) filled.new);
        }

    pub line-entered : {r : Bool} → r ≡ known (line_at b at) (lines_at b (take count places)) → r ≡ false
        → LineEntered b at slots after places (set places count at) count t false
    line-entered told n =
        record {
          size = filled.size;
          room = length-set places count at;
          told = sym n ∙ told;
          more = λ _. rw add-one (take-suc-set places count at room.room);
          kept = λ _. kept_more;
        }
