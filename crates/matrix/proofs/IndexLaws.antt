-- Stored rows by a table of their names: what a search finds, and one row more. Assumes nothing.
use Prim.Native.Nat.{ℕ, zero, suc, ◌+◌, ◌≤◌, ◌<◌}
use Rattle.block.proofs.OutcomeLaws.{all_one}
use Rattle.lexer.proofs.Basics.{by-test, not-both}
use Rattle.lexer.proofs.RangeLaws.{word_kept, start-kept}
use Rattle.lexer.specs.Base.{pick}
use Rattle.matrix.proofs.BelowLaws.{below_each, each_below, stored-below}
use Rattle.matrix.proofs.PlaceWalk.{Placing, placing-start, placing-turn, placing-found, placing-end}
use Rattle.matrix.proofs.StoredRows.{stored_more, stored-kept}
use Rattle.matrix.specs.Lines.{name_at, stored, names_stored}
use Rattle.matrix.specs.OrderHeld.{all_below, place_of}
use Rattle.matrix.specs.RowIndex.{row_alike, Indexed, RowRoom, RowPut, RowsBehind}
use Rattle.slots.proofs.EnteringLaws.{entered-same, slot-behind}
use Rattle.slots.proofs.HashLaws.{alike-hash}
use Rattle.slots.proofs.LetterLaws.{alike-letters}
use Rattle.slots.proofs.SoughtLaws.{First, Sought, sought-turn, sought-end, sought-none, sought-value}
use Rattle.slots.specs.Entering.{EnteredFrom, Entered, NameEntered, window_end}
use Rattle.slots.specs.Filling.{slot_of}
use Rattle.slots.specs.Hashes.{hash}
use Rattle.slots.specs.Seeking.{Nearer}
use Rattle.slots.specs.Trie.{Led, letters}
use Rattle.slots.specs.declared.Table.{Table}
use borrow.Author.Tests.{eqb-true, eqb-false, ltb-true, ltb-false}
use lib.Dec.{eqb, ltb}
use lib.ListN.{length, get_or, take, set, length-set}
use lib.Seq.{get_or-set_same, get_or-set_other, take-set-le, take-take}
use mathlib.Core.Bool.{Bool, true, false}
use mathlib.Core.List.{List}
use mathlib.Core.Option.{none, some}
use mathlib.Core.Path.{◌≡◌, sym, ap, ◌∙◌}
use native.Mathlib.Numerals.{add-one}
use native.Mathlib.Omega.{arith}

module _ (text work : List ℕ) (at rows i : ℕ) where
  -- The rows that have the name of a word are entered for that name.
  alike-entered : (t : Table) → Indexed text work at rows t → (k : ℕ) → k < rows → row_alike text work at i k ≡ true → Entered work t (name_at text work i) (k + 1)
  unfolding row_alike
  alike-entered t x k h e =
      let other = name_at text work (get_or work (at + k) 0) in
      rw (alike-hash (name_at text work i) other e, alike-letters (name_at text work i) other e) (x.each k h)

  -- The first row of the name has its place among the names.
  module _ (room : at + rows ≤ length work) (found : ℕ) (f : First (row_alike text work at i) rows found) where
    passed : (k : ℕ) → k ≤ found → Placing text work at rows i k
    unfolding row_alike
    passed zero h = placing-start text work at rows i room
    passed (suc k) h = rw (← add-one k) (placing-turn text work at rows i k (passed k (omega arith)) (omega (arith, f.few)) (f.miss k (omega arith)))

    pub first-place : pick (ltb found rows) (some found) none ≡ place_of (name_at text work i) (names_stored text work (stored work at rows))
    unfolding row_alike pick
    first-place =
        by-test (ltb found rows)
        (λ e. let l = ltb-true found rows e in rw e (placing-found text work at rows i found (passed found (omega arith)) l (f.hit l)))
        (λ e. let l = ltb-false found rows e in rw e (placing-end text work at rows i found (passed found (omega arith)) l))

-- The slots that a search has passed, where the rows that have the name of a word are entered from the first of them on.
pub record Searched (text work : List ℕ) (at rows i from stop head p found : ℕ) : Type 0 where
  pub few : found ≤ rows
  pub rest : ((k : ℕ) → k < rows → row_alike text work at i k ≡ true → EnteredFrom work from stop head (letters (name_at text work i)) (k + 1))
      → Sought work stop head (letters (name_at text work i)) (row_alike text work at i) rows p found

module _ (text work : List ℕ) (at rows i from stop head : ℕ) where
  module _ {p found : ℕ} (s : Searched text work at rows i from stop head p found) where
    pub searched-turn : p < stop → {v : ℕ} → v ≡ get_or work p 0 → {r : ℕ} → Nearer (row_alike text work at i) found v r → Searched text work at rows i from stop head (p + 1) r
    searched-turn h is n =
        record { few = omega (arith, n.few, s.few); rest = λ all. sought-turn work stop head (letters (name_at text work i)) (row_alike text work at i) rows (s.rest all) h is n }

    -- Where a table has the rows, the first of them is what was found at a free slot, or, behind the window, what the trie has.
    module _ {t : Table} (e : from ≡ slot_of t (hash (name_at text work i))) (ends : stop ≡ window_end t.end from) (behind : t.end ≡ head) (x : Indexed text work at rows t) where
      all : Sought work stop head (letters (name_at text work i)) (row_alike text work at i) rows p found
      all = s.rest (λ k l a. rw (ends, e, ← behind) (alike-entered text work at rows i t x k l a))

      pub searched-end : p < stop → {v : ℕ} → v ≡ get_or work p 0 → v ≡ 0 → First (row_alike text work at i) rows found
      searched-end h is z = sought-end work stop head (letters (name_at text work i)) (row_alike text work at i) rows all h is z

      pub searched-none : stop ≤ p → ((v : ℕ) → Led work head (letters (name_at text work i)) v → ⊥) → First (row_alike text work at i) rows found
      searched-none h absent = sought-none work stop head (letters (name_at text work i)) (row_alike text work at i) rows all h absent

      pub searched-value : stop ≤ p → {n r : ℕ} → ((v : ℕ) → Led work head (letters (name_at text work i)) v → n ≡ v) → Nearer (row_alike text work at i) found n r → First (row_alike text work at i) rows r
      searched-value h value n = sought-value work stop head (letters (name_at text work i)) (row_alike text work at i) rows all h value n

-- The name of a stored row is the same where work memory was kept up to an index, in front of which it and its word stand.
pub name-same : (text work other : List ℕ) (base at k : ℕ) → take base other ≡ take base work → at + k < base → get_or work (at + k) 0 < base → name_at text other (get_or other (at + k) 0) ≡ name_at text work (get_or work (at + k) 0)
unfolding name_at
name-same text work other base at k kept here word = rw (start-kept text other work base kept (at + k) here, word_kept text other work base kept (get_or work (at + k) 0) word)

module _ (text work other : List ℕ) (at : ℕ) (t : Table) where
  -- A table has the rows still where their names are the same, and so is all from the table on.
  pub indexed-kept : t.base ≤ t.end → (rows : ℕ) → ((k : ℕ) → k < rows → name_at text other (get_or other (at + k) 0) ≡ name_at text work (get_or work (at + k) 0))
      → ((q : ℕ) → t.base ≤ q → get_or other q 0 ≡ get_or work q 0) → Indexed text work at rows t → Indexed text other at rows t
  indexed-kept order rows names same x =
      record { each = λ k l. rw (names k l) (entered-same (slot-behind t (hash (name_at text work (get_or work (at + k) 0)))) order same (x.each k l)) }

  -- A row more is put into the table.
  module _ (rows : ℕ) (x : Indexed text work at rows t) (f : NameEntered work other t (name_at text work (get_or work (at + rows) 0)) (rows + 1)) where
    indexed-more : ((k : ℕ) → k < rows + 1 → name_at text other (get_or other (at + k) 0) ≡ name_at text work (get_or work (at + k) 0)) → Indexed text other at (rows + 1) t
    indexed-more names =
        record {
          each = λ k l.
              rw (names k l)
              (by-test (eqb k rows)
              (λ e. let last = eqb-true k rows e in rw last f.new)
              (λ e. f.old _ (k + 1) (omega arith) (x.each k (short k l (eqb-false k rows e)))));
        }
      where
        short : (k : ℕ) → k < rows + 1 → (k ≡ rows → ⊥) → k < rows
        short k l o = by-test (ltb k rows) (λ e. ltb-true k rows e) (λ e. let m = ltb-false k rows e in absurd (o (omega arith)))

-- A row more is stored in front of the table.
module _ (text before : List ℕ) (at rows s : ℕ) (t : Table) (room : RowRoom before at rows s t) where
  abbrev mid : List ℕ
  mid = set before (at + rows) s

  start-last : get_or mid (at + rows) 0 ≡ s
  start-last = get_or-set_same before (at + rows) s 0 room.space

  mid-below : all_below at (stored before at rows) → s < at → (k : ℕ) → k < rows + 1 → get_or mid (at + k) 0 < at
  mid-below below word k l =
      let all : all_below at (stored mid at (rows + 1)) = rw (stored_more before at rows s room.space) (each_below at _ (all_one (λ s. s < at) (stored before at rows) s (below_each at (stored before at rows) below) word)) in
      stored-below at mid at (rows + 1) all k l (omega (arith, length-set before (at + rows) s, room.space))

  mid-indexed : all_below at (stored before at rows) → Indexed text before at rows t → Indexed text mid at rows t
  mid-indexed below x =
      indexed-kept text before mid at t room.order rows
      (λ k l. name-same text before mid (at + rows) at k (take-set-le (at + rows) before (at + rows) s (omega arith)) (omega arith) (omega (arith, stored-below at before at rows below k l (omega (arith, room.space)))))
      (λ q m. get_or-set_other before (at + rows) q s 0 (λ e. omega (arith, room.front)))
      x

  -- where its name need not be new it is only stored
  pub row-stored : (new : Bool) → new ≡ false → RowPut text before mid at rows s t new
  row-stored new e =
      record {
        size = length-set before (at + rows) s;
        kept = take-set-le at before (at + rows) s (omega arith);
        more = stored_more before at rows s room.space;
        indexed = λ d. not-both e d;
      }

  -- else it is put into the table
  module _ (after : List ℕ) (f : NameEntered mid after t (name_at text mid s) (rows + 1)) where
    filled : NameEntered mid after t (name_at text mid (get_or mid (at + rows) 0)) (rows + 1)
    filled = rw start-last f

    pub row_put : (new : Bool) → RowPut text before after at rows s t new
    row_put new =
        let l : at ≤ t.base = omega (arith, room.front) in
        record {
          size = f.size ∙ length-set before (at + rows) s;
          kept = sym (take-take at t.base after l) ∙ ap (take at) f.front ∙ take-take at t.base mid l ∙ take-set-le at before (at + rows) s (omega arith);
          more = stored-kept after mid t.base at (rows + 1) f.front (omega (arith, room.front)) ∙ stored_more before at rows s room.space;
          indexed = λ _ below word x. indexed-more text mid after at t rows (mid-indexed below x) filled (λ k m. name-same text mid after t.base at k f.front (omega (arith, room.front)) (omega (arith, mid-below below word k m, room.front)));
        }

-- Stored rows are put into the table behind them, one after the other.
module _ (text before : List ℕ) (lines rows : ℕ) (t : Table) where
  pub record Indexing (work : List ℕ) (k : ℕ) : Type 0 where
    pub size : length work ≡ length before
    pub front : take t.base work ≡ take t.base before
    pub few : k ≤ rows
    pub indexed : all_below t.base (stored before lines rows) → Indexed text work lines k t

  module _ (room : RowsBehind before lines rows t) {work : List ℕ} {k : ℕ} (x : Indexing work k) where
    pub indexing-turn : k < rows → {s : ℕ} → s ≡ get_or work (lines + k) 0 → {after : List ℕ} → NameEntered work after t (name_at text work s) (k + 1) → Indexing after (k + 1)
    indexing-turn h {s} is {after} f =
        record {
          size = f.size ∙ x.size;
          front = f.front ∙ x.front;
          few = omega arith;
          indexed = λ below.
              indexed-more text work after lines t k (x.indexed below) (rw is at f)
              (λ j m. name-same text work after t.base lines j f.front (omega (arith, room.front, h)) (start-below below j (omega (arith, h, m))));
        }
      where
        start-below : all_below t.base (stored before lines rows) → (j : ℕ) → j < rows → get_or work (lines + j) 0 < t.base
        start-below below j l = rw (start-kept text work before t.base x.front (lines + j) (omega (arith, room.front))) (stored-below t.base before lines rows below j l room.space)
