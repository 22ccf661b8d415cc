-- The walk over declared names that stores the row of each. Assumes nothing.
use Rattle.std.specs.Prelude.{Result, ⊤}
use Prim.Native.Nat.{ℕ, suc, ◌+◌, ◌-◌, ◌≤◌, ◌<◌}
use Rattle.block.proofs.ChunkSound.{none-some, some_inj}
use Rattle.block.proofs.WalkLaws.{words-newline, words-next, words-end, words_last, words-last-newline}
use Rattle.block.specs.Blocks.{row_of, arranged}
use Rattle.block.specs.Commands.{newline, words}
use Rattle.block.specs.NamesHeld.{name_of, names_of}
use Rattle.block.specs.Outcome.{Outcome, done, refused, then, need}
use Rattle.block.specs.Reading.{Taxon}
use Rattle.block.specs.Sequential.{names}
use Rattle.block.specs.Sound.{names_differ}
use Rattle.lexer.proofs.Basics.{and_left, and_right, by-test}
use Rattle.lexer.proofs.RangeLaws.{word_kept, range-kept}
use Rattle.lexer.specs.Base.{pick, alike}
use Rattle.lexer.specs.Stored.{word_of, range}
use Rattle.lexer.specs.declared.refusal.Refusal.{Refusal}
use Rattle.matrix.proofs.BelowLaws.{below_each, below-further, stored-below}
use Rattle.matrix.proofs.IndexLaws.{name-same, indexed-kept}
use Rattle.matrix.proofs.PlaceWalk.{row-placed}
use Rattle.matrix.proofs.StoredRows.{stored-kept, cleared-front, names-kept}
use Rattle.matrix.specs.Lines.{name_at, names_stored, stored}
use Rattle.matrix.specs.OrderHeld.{Arranged, place_from, place_of, cells_at, ordered, all_below}
use Rattle.matrix.specs.RowIndex.{Indexed, RowsPut, row_alike, row_named}
use Rattle.slots.specs.Filling.{Cleared, TableFits}
use Rattle.slots.specs.declared.Table.{Table}
use Rattle.lexer.specs.declared.Fault.{Fault}
use borrow.Author.Tests.{ltb-true, ltb-false}
use lib.Dec.{ltb}
use lib.ListN.{length, get_or, take, set, length-set, length-append}
use lib.Seq.{get_or-set_same, get_or-set_other, take-set-le, take-take}
use mathlib.Core.Bool.{true, false}
use mathlib.Core.List.{List, [], ◌∷◌, ◌++◌, map-append, append-nil, append_assoc}
use mathlib.Core.Option.{Option, none, some}
use mathlib.Core.Path.{◌≡◌, refl, sym, ap, ◌∙◌}
use native.Mathlib.Omega.{arith}

-- What is known of a row that has the name of a word.
pub named-told : (text work : List ℕ) (at rows i k : ℕ) → row_named text work at rows i k ≡ true → (k < rows) × (row_alike text work at i k ≡ true)
unfolding row_named
named-told text work at rows i k t = (ltb-true k rows (and_left (ltb k rows) (row_alike text work at i k) t), and_right (ltb k rows) (row_alike text work at i k) t)

-- The row of a name is the one at its place among the names.
placed_row : (n : List ℕ) (rows : List Taxon) (k j : ℕ) → place_from n k (names rows) ≡ some j
    → (k ≤ j) × (row_of n rows ≡ some (record { name = n; cells = cells_at rows (j - k) }))
unfolding place_from row_of names cells_at pick
placed_row n [] k j e = none-some j e
placed_row n (t ∷ r) k j e = by-test (alike n t.name) (λ a. rw a (here (rw a at e))) (λ a. rw a (there (placed_row n r (suc k) j (rw a at e))))
  where
    here : some k ≡ some j → (k ≤ j) × ◌≡◌ {A = Option Taxon} (some (record { name = n; cells = t.cells })) (some (record { name = n; cells = cells_at (t ∷ r) (j - k) }))
    here p = let q = some_inj p in let none_left : j - k ≡ 0 = omega arith in (omega arith, rw none_left refl)

    there : (suc k ≤ j) × (row_of n r ≡ some (record { name = n; cells = cells_at r (j - suc k) }))
        → (k ≤ j) × (row_of n r ≡ some (record { name = n; cells = cells_at (t ∷ r) (j - k) }))
    there p = let l = p.0 in let one : j - k ≡ suc (j - suc k) = omega arith in (omega arith, rw one p.1)

absent-row : (n : List ℕ) (rows : List Taxon) (k : ℕ) → place_from n k (names rows) ≡ none → row_of n rows ≡ none
unfolding place_from row_of names pick
absent-row n [] k e = refl
absent-row n (t ∷ r) k e = by-test (alike n t.name) (λ a. none-some k (sym (rw a at e))) (λ a. rw a (absent-row n r (suc k) (rw a at e)))

-- One declared name more: its row's number stands behind the others.
ordered-kept : (rows : List Taxon) (work : List ℕ) (k v : ℕ) (ns : List (List ℕ)) (at : ℕ) → at + length ns ≤ k → ordered rows (set work k v) at ns ≡ ordered rows work at ns
unfolding ordered
ordered-kept rows work k v [] at h = refl
ordered-kept rows work k v (n ∷ ns) at h = rw (get_or-set_other work k at v 0 (λ e. omega arith), ordered-kept rows work k v ns (suc at) (omega arith)) refl

ordered-append : (rows : List Taxon) (work : List ℕ) (ns : List (List ℕ)) (n : List ℕ) (at : ℕ)
    → ordered rows work at (ns ++ (n ∷ [])) ≡ ordered rows work at ns ++ (record { name = n; cells = cells_at rows (get_or work (at + length ns) 0) } ∷ [])
unfolding ordered
ordered-append rows work [] n at = let here : at + 0 ≡ at = omega arith in rw here refl
ordered-append rows work (m ∷ ns) n at =
    let next : at + suc (length ns) ≡ suc at + length ns = omega arith in
    rw (next, ordered-append rows work ns n (suc at)) refl

-- The words of TAXLABELS stand in front of the stored rows, and these in front of what is stored here.
module _ (text before : List ℕ) (lines rows from to at head : ℕ) where
  declared : ℕ → ℕ → List (List ℕ)
  declared i end = names_of (words (range text before i end))

  -- What a turn keeps: work memory in front, and how many names have passed; and what the rest comes to behind them.
  pub record Arranging (work : List ℕ) (i k : ℕ) : Type 0 where
    pub size : length work ≡ length before
    pub kept : take at work ≡ take at before
    pub since : from ≤ i
    pub within : to < i → i ≤ from
    pub count : k ≡ at + length (names_of (words (range text before from i)))
    pub few : length (names_of (words (range text before from i))) ≤ i
    pub rest : (taken : List Taxon) → names taken ≡ names_stored text before (stored before lines rows) → all_below at (stored before lines rows) → names_differ (names taken) ≡ true
        → then (arranged head taken (names_of (words (range text before i to)))) (λ ts. done (ordered taken work at (names_of (words (range text before from i))) ++ ts)) ≡ arranged head taken (names_of (words (range text before from to)))

  then_same : (o : Outcome (List Taxon)) → then o (λ ts. done ts) ≡ o
  unfolding then
  then_same (done ts) = refl
  then_same (refused n i) = refl

  pub arranging-start : Arranging before from at
  unfolding names_of ordered
  arranging-start =
      record {
        size = refl;
        kept = refl;
        since = omega arith;
        within = λ l. omega arith;
        count = rw (words-end text before from from (omega arith)) (omega arith);
        few = rw (words-end text before from from (omega arith)) (omega arith);
        rest = λ taken same below differ. rw (words-end text before from from (omega arith)) (then_same _);
      }

  module _ (room : (to ≤ lines) × (lines + rows ≤ at) × (at + to ≤ length before) × (rows ≤ 1048576)) (work : List ℕ) (i k : ℕ) (a : Arranging work i k) where
    pub arranging-room : i < to → k < length work
    arranging-room h = omega (arith, a.count, a.few, a.size, room.2)

    -- the word here is as it was, and so are the names of the stored rows
    pub word-here : i < to → word_of text work i ≡ word_of text before i
    word-here h = word_kept text work before at a.kept i (omega (arith, room.0, room.1))

    names-here : all_below at (stored before lines rows) → names_stored text work (stored work lines rows) ≡ names_stored text before (stored before lines rows)
    names-here below = rw (stored-kept work before at lines rows a.kept room.1) (names-kept text work before at a.kept (stored before lines rows) (below_each at (stored before lines rows) below))

    -- what was found among the names of stored rows is the place among those of any rows that have them
    pub found-place : (o : Option ℕ) → i < to → (taken : List Taxon) → names taken ≡ names_stored text before (stored before lines rows) → all_below at (stored before lines rows)
        → o ≡ place_of (name_at text work i) (names_stored text work (stored work lines rows)) → place_of (name_of (word_of text before i)) (names taken) ≡ o
    unfolding name_at name_of
    found-place o h taken same below e = sym (e ∙ rw (word-here h, names-here below, ← same) refl)

    -- a row that has the name is its place, where the names differ
    pub row-place : (j : ℕ) → i < to → (j < rows) × (row_alike text work lines i j ≡ true) → (taken : List Taxon) → names taken ≡ names_stored text before (stored before lines rows) → all_below at (stored before lines rows)
        → names_differ (names taken) ≡ true → place_of (name_of (word_of text before i)) (names taken) ≡ some j
    unfolding row_alike
    row-place j h e taken same below differ =
        found-place (some j) h taken same below (row-placed text work lines rows j (name_at text work i) (omega (arith, room.1, room.2, a.size)) e.0 (rw (names-here below, ← same) differ) e.1)

    pub arranging-newline : i < to → newline (word_of text before i) ≡ true → Arranging work (i + 1) k
    unfolding names_of
    arranging-newline h e =
        record {
          size = a.size;
          kept = a.kept;
          since = omega (arith, a.since);
          within = λ l. omega arith;
          count = rw (words-last-newline text before from i a.since e) a.count;
          few = rw (words-last-newline text before from i a.since e) (omega (arith, a.few));
          rest = λ taken same below differ. rw (words-last-newline text before from i a.since e) (rw (words-newline text before i to h e) at (a.rest taken same below differ));
        }

    module _ (h : i < to) (e : newline (word_of text before i) ≡ false) where
      -- the rest begins with the name here
      split : (taken : List Taxon) → arranged head taken (names_of (words (range text before i to)))
          ≡ then (need (row_of (name_of (word_of text before i)) taken) Refusal.TaxonAbsent head) (λ t. then (arranged head taken (names_of (words (range text before (i + 1) to)))) (λ ts. done (t ∷ ts)))
      unfolding names_of arranged
      split taken = rw (words-next text before i to h e) refl

      pub arranging-absent : (taken : List Taxon) → names taken ≡ names_stored text before (stored before lines rows) → all_below at (stored before lines rows) → names_differ (names taken) ≡ true
          → place_of (name_of (word_of text before i)) (names taken) ≡ none
          → refused Refusal.TaxonAbsent head ≡ arranged head taken (names_of (words (range text before from to)))
      unfolding place_of need then
      arranging-absent taken same below differ p = rw (split taken, absent-row (name_of (word_of text before i)) taken 0 p) at (a.rest taken same below differ)

      names_more : names_of (words (range text before from (i + 1))) ≡ names_of (words (range text before from i)) ++ (name_of (word_of text before i) ∷ [])
      unfolding names_of
      names_more = rw (words_last text before from i a.since e, map-append) refl

      -- The row of the name here is stored behind the others.
      module _ (taken : List Taxon) (j : ℕ) (p : place_of (name_of (word_of text before i)) (names taken) ≡ some j) where
        row : Taxon
        row = record { name = name_of (word_of text before i); cells = cells_at taken j }

        row_here : row_of (name_of (word_of text before i)) taken ≡ some row
        unfolding place_of row
        row_here = let all : j - 0 ≡ j = omega arith in rw all at (placed_row (name_of (word_of text before i)) taken 0 j p).1

        ordered-more : ordered taken (set work k j) at (names_of (words (range text before from (i + 1)))) ≡ ordered taken work at (names_of (words (range text before from i))) ++ (row ∷ [])
        unfolding row
        ordered-more =
            let ns = names_of (words (range text before from i)) in
            let here : get_or (set work k j) (at + length ns) 0 ≡ j = rw (← a.count) (get_or-set_same work k j 0 (arranging-room h)) in
            rw (names_more, ordered-append taken (set work k j) ns (name_of (word_of text before i)) at, here, ordered-kept taken work k j ns at (omega (arith, a.count))) refl

        joined : (o : Outcome (List Taxon)) → then (then o (λ ts. done (row ∷ ts))) (λ ts. done (ordered taken work at (names_of (words (range text before from i))) ++ ts))
            ≡ then o (λ ts. done (ordered taken (set work k j) at (names_of (words (range text before from (i + 1)))) ++ ts))
        unfolding then
        joined (done ts) = rw (ordered-more, append_assoc) refl
        joined (refused m q) = refl

        rest_more : names taken ≡ names_stored text before (stored before lines rows) → all_below at (stored before lines rows) → names_differ (names taken) ≡ true
            → then (arranged head taken (names_of (words (range text before (i + 1) to)))) (λ ts. done (ordered taken (set work k j) at (names_of (words (range text before from (i + 1)))) ++ ts)) ≡ arranged head taken (names_of (words (range text before from to)))
        unfolding need then
        rest_more same below differ = sym (joined (arranged head taken (names_of (words (range text before (i + 1) to))))) ∙ rw (split taken, row_here) at (a.rest taken same below differ)

      -- the number that is stored stands behind the rows and in front of the table
      pub store-indexed : (t : Table) (j : ℕ) → at + to ≤ t.base → t.base ≤ t.end → all_below at (stored before lines rows) → Indexed text work lines rows t → Indexed text (set work k j) lines rows t
      store-indexed t j front order below indexed =
          indexed-kept text work (set work k j) lines t order rows
          (λ m l. name-same text work (set work k j) at lines m (take-set-le at work k j (omega (arith, a.count))) (omega (arith, room.1, l)) (stored-below at work lines rows (rw (stored-kept work before at lines rows a.kept room.1) below) m l (omega (arith, room.1, room.2, a.size))))
          (λ q m. get_or-set_other work k q j 0 (λ e. omega (arith, a.count, a.few, front, h)))
          indexed

      pub arranging-turn : (j : ℕ)
          → ((taken : List Taxon) → names taken ≡ names_stored text before (stored before lines rows) → all_below at (stored before lines rows) → names_differ (names taken) ≡ true → place_of (name_of (word_of text before i)) (names taken) ≡ some j)
          → Arranging (set work k j) (i + 1) (k + 1)
      arranging-turn j found =
          let more : length (names_of (words (range text before from (i + 1)))) ≡ length (names_of (words (range text before from i))) + 1 = rw (names_more, length-append) refl in
          record {
            size = length-set work k j ∙ a.size;
            kept = take-set-le at work k j (omega (arith, a.count)) ∙ a.kept;
            since = omega (arith, a.since);
            within = λ l. omega arith;
            count = omega (arith, a.count);
            few = omega (arith, a.few);
            rest = λ taken same below differ. rest_more taken j (found taken same below differ) same below differ;
          }

    -- All names have passed.
    pub arranging-end : to ≤ i → (taken : List Taxon) → names taken ≡ names_stored text before (stored before lines rows) → all_below at (stored before lines rows) → names_differ (names taken) ≡ true
        → done (ordered taken work at (names_of (words (range text before from to)))) ≡ arranged head taken (names_of (words (range text before from to)))
    unfolding arranged names_of then
    arranging-end l taken same below differ = ap (λ ws. done (ordered taken work at (names_of ws))) (by-test (ltb to i) (λ t. past (ltb-true to i t)) (λ t. met (ltb-false to i t))) ∙ all
      where
        past : to < i → words (range text before from to) ≡ words (range text before from i)
        past m = let w = a.within m in words-end text before from to (omega (arith, a.since)) ∙ sym (words-end text before from i w)

        met : i ≤ to → words (range text before from to) ≡ words (range text before from i)
        met m = let same : i ≡ to = omega arith in rw same refl

        all : done (ordered taken work at (names_of (words (range text before from i)))) ≡ arranged head taken (names_of (words (range text before from to)))
        all = sym (rw (words-end text before i to l, append-nil) refl) ∙ a.rest taken same below differ

-- What was arranged where work memory was kept in front was arranged as it was before.
pub arranged-behind : {text before work after : List ℕ} {lines rows from to at head : ℕ} {r : Result ⊤ (Fault ℕ)} → (to ≤ lines) × (lines + rows ≤ at) → length work ≡ length before → take at work ≡ take at before
    → Arranged text work after lines rows from to at head r → Arranged text before after lines rows from to at head r
arranged-behind {text} {before} {work} {lines = lines} {rows} {from} {to} {at} room size kept k =
    let starts = stored-kept work before at lines rows kept room.1 in
    record {
      size = k.size ∙ size;
      kept = k.kept ∙ kept;
      each = λ taken same below differ.
          let names = names-kept text work before at kept (stored before lines rows) (below_each at (stored before lines rows) below) in
          rw (range-kept text work before at kept from to (omega (arith, room.0, room.1))) at (k.each taken (rw (starts, names) same) (rw starts below) differ);
    }

-- A table was cleared, and the stored rows were put into it, before the names are arranged.
module _ {text before clear work : List ℕ} {lines rows to at : ℕ} {t : Table} (room : (to ≤ lines) × (lines + rows ≤ at) × (at + to ≤ length before) × (rows ≤ 1048576))
    (c : Cleared before clear (at + to)) (fits : TableFits (at + to) (length before) t) (p : RowsPut text clear work lines rows t) where
  pub filled-size : length work ≡ length before
  filled-size = p.size ∙ c.size

  filled-kept : take at work ≡ take at before
  filled-kept =
      let l : at ≤ t.base = omega (arith, fits.begins) in
      sym (take-take at t.base work l) ∙ ap (take at) p.front ∙ take-take at t.base clear l ∙ cleared-front before clear at (at + to) c (omega arith)

  pub filled-fits : TableFits (at + to) (length work) t
  filled-fits = record { begins = fits.begins; ahead = fits.ahead; within = omega (arith, fits.within, filled-size); sound = fits.sound }

  pub filled_indexed : all_below at (stored work lines rows) → Indexed text work lines rows t
  filled_indexed below =
      let same : stored work lines rows ≡ stored clear lines rows = stored-kept work clear t.base lines rows p.front (omega (arith, fits.begins, room.1)) in
      p.indexed (below-further at t.base (omega (arith, fits.begins)) (stored clear lines rows) (rw same at below))

  pub arranged-filled : {after : List ℕ} {from head : ℕ} {r : Result ⊤ (Fault ℕ)} → Arranged text work after lines rows from to at head r → Arranged text before after lines rows from to at head r
  arranged-filled k = arranged-behind (room.0, room.1) filled-size filled-kept k
