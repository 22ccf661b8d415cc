-- The names of TAXLABELS that were judged, by a table: what a search passes, and one word more. Assumes nothing.
use Rattle.std.specs.Prelude.{Result, ⊤}
use Prim.Native.Nat.{ℕ, zero, suc, ◌+◌, ◌-◌, ◌≤◌, ◌<◌}
use Rattle.block.proofs.NamesWalk.{Naming, naming-kept, naming-start, naming-newline, naming-turn, Searching, searching-newline, searching-turn, searching-found, searching-end}
use Rattle.block.specs.Commands.{newline, words}
use Rattle.block.specs.Judged.{judged}
use Rattle.block.specs.Names.{known, unique_names}
use Rattle.block.specs.NamesHeld.{name_of, names_of}
use Rattle.block.specs.NamesKept.{SameName, SlotAlike, NamesKept, NamePut, NamesRoom, NamesJudged}
use Rattle.lexer.proofs.Basics.{by-test, not-both}
use Rattle.lexer.proofs.RangeLaws.{range-kept, word_kept}
use Rattle.lexer.specs.Base.{alike, given}
use Rattle.lexer.specs.Stored.{word_of, range}
use Rattle.lexer.specs.Words.{label}
use Rattle.slots.proofs.EnteringLaws.{slot-behind, window-within}
use Rattle.slots.proofs.HashLaws.{alike-hash}
use Rattle.slots.proofs.LetterLaws.{alike-letters}
use Rattle.slots.proofs.SoughtLaws.{none-entered}
use Rattle.slots.specs.Entering.{Entered, EnteredFrom, NameEntered, window_end}
use Rattle.slots.specs.Filling.{Cleared, TableFits, slot_of}
use Rattle.slots.specs.Hashes.{hash}
use Rattle.slots.specs.Trie.{Led, letters}
use Rattle.slots.specs.declared.Table.{Table}
use Rattle.lexer.specs.declared.Fault.{Fault}
use borrow.Author.Tests.{eqb-true, eqb-false, ltb-true, ltb-false}
use lib.Dec.{eqb, ltb}
use lib.ListN.{length, get_or, take, get_or-eq_default}
use mathlib.Core.Bool.{Bool, true, false}
use mathlib.Core.List.{List}
use lib.Seq.{take-take}
use mathlib.Core.Path.{◌≡◌, refl, sym, ap, ◌∙◌}
use native.Mathlib.Omega.{arith}

-- A name is known among those of some words exactly where one of them has it.
module _ (text work : List ℕ) (n : List ℕ) (from to : ℕ) where
  abbrev is_known : Bool
  is_known = known n (names_of (words (range text work from to)))

  known_from : (m x j : ℕ) → Searching text work n from to x → x + m ≡ j → j < to → newline (word_of text work j) ≡ false → alike n (name_of (word_of text work j)) ≡ true → true ≡ is_known
  known_from zero x j s e h w a = let same : j ≡ x = omega arith in searching-found text work n from to x s (omega arith) (rw same at w) (rw same at a)
  known_from (suc m) x j s e h w a =
      by-test (newline (word_of text work x))
      (λ t. known_from m (x + 1) j (searching-newline text work n from to x s (omega arith) t) (omega arith) h w a)
      (λ f. by-test (alike n (name_of (word_of text work x)))
      (λ t. searching-found text work n from to x s (omega arith) f t)
      (λ d. known_from m (x + 1) j (searching-turn text work n from to x s (omega arith) f d) (omega arith) h w a))

  known-one : (j : ℕ) → from ≤ j → j < to → newline (word_of text work j) ≡ false → alike n (name_of (word_of text work j)) ≡ true → true ≡ is_known
  known-one j l h w a = known_from (j - from) from j (record { rest = refl }) (omega arith) h w a

  module _ (none : (j : ℕ) → from ≤ j → j < to → newline (word_of text work j) ≡ false → alike n (name_of (word_of text work j)) ≡ false) where
    none_from : (m x : ℕ) → from ≤ x → Searching text work n from to x → to ≤ x + m → false ≡ is_known
    none_from zero x l s h = searching-end text work n from to x s (omega arith)
    none_from (suc m) x l s h =
        by-test (ltb x to)
        (λ t. let b = ltb-true x to t in by-test (newline (word_of text work x))
        (λ w. none_from m (x + 1) (omega arith) (searching-newline text work n from to x s b w) (omega arith))
        (λ w. none_from m (x + 1) (omega arith) (searching-turn text work n from to x s b w (none x l b w)) (omega arith)))
        (λ f. searching-end text work n from to x s (ltb-false x to f))

    known-none : false ≡ is_known
    known-none = none_from (to - from) from (omega arith) (record { rest = refl }) (omega arith)

-- The slots that a search has passed, where the words of a name are entered from the first of them on.
pub record Passing (text work : List ℕ) (from i stop head first p : ℕ) : Type 0 where
  pub rest : ((j : ℕ) → SameName text work from i j → EnteredFrom work first stop head (letters (name_of (word_of text work i))) (j + 1))
      → (j : ℕ) → SameName text work from i j → EnteredFrom work p stop head (letters (name_of (word_of text work i))) (j + 1)

module _ (text work : List ℕ) (from i stop head first : ℕ) where
  -- The word that a slot or the trie holds has the name.
  pub passing-found : {v : ℕ} {r : Bool} → SlotAlike text work from i v r → r ≡ true → (v ≡ 0 → ⊥) → true ≡ known (name_of (word_of text work i)) (names_of (words (range text work from i)))
  passing-found {v} a t some =
      let one : v ≡ v - 1 + 1 = omega (arith, some) in
      let s = a.hit t (v - 1) one in
      known-one text work (name_of (word_of text work i)) from i (v - 1) s.since s.before s.word s.same

  module _ {p : ℕ} (k : Passing text work from i stop head first p) where
    -- All words of the name are entered from the first slot on.
    module _ (t : Table) (e : first ≡ slot_of t (hash (name_of (word_of text work i)))) (w : stop ≡ window_end t.end first) (same : t.end ≡ head) (x : NamesKept text work from i t) where
      entered-first : (j : ℕ) → SameName text work from i j → EnteredFrom work first stop head (letters (name_of (word_of text work i))) (j + 1)
      entered-first j s =
          let other = name_of (word_of text work j) in
          rw (w, e, ← same, alike-hash (name_of (word_of text work i)) other s.same, alike-letters (name_of (word_of text work i)) other s.same)
          (x.each j s.since s.before s.word)

      none_alike : ((j : ℕ) → SameName text work from i j → ⊥) → false ≡ known (name_of (word_of text work i)) (names_of (words (range text work from i)))
      none_alike none =
          known-none text work (name_of (word_of text work i)) from i
          (λ j l b w. by-test (alike (name_of (word_of text work i)) (name_of (word_of text work j)))
          (λ a. absurd (none j (record { since = l; before = b; word = w; same = a })))
          (λ f. f))

      pub passing-free : p < stop → {v : ℕ} → v ≡ get_or work p 0 → v ≡ 0 → false ≡ known (name_of (word_of text work i)) (names_of (words (range text work from i)))
      passing-free h is z = none_alike (λ j s. none-entered h (sym is ∙ z) (omega arith) (k.rest entered-first j s))

      -- Behind the window what is left is in the trie.
      module _ (past : stop ≤ p) where
        led : (j : ℕ) → SameName text work from i j → Led work head (letters (name_of (word_of text work i))) (j + 1)
        led j s = let here = k.rest entered-first j s in here.led (omega (arith, here.ahead))

        pub passing-none : ((v : ℕ) → Led work head (letters (name_of (word_of text work i))) v → ⊥) → false ≡ known (name_of (word_of text work i)) (names_of (words (range text work from i)))
        passing-none none = none_alike (λ j s. none (j + 1) (led j s))

        pub passing-value : {n : ℕ} {r : Bool} → 0 < n → ((v : ℕ) → Led work head (letters (name_of (word_of text work i))) v → n ≡ v) → SlotAlike text work from i n r
            → r ≡ known (name_of (word_of text work i)) (names_of (words (range text work from i)))
        passing-value {n} {r} some value a =
            by-test r (λ y. y ∙ passing-found a y (λ z. omega arith)) (λ f. f ∙ none_alike (λ j s. a.miss f j (value (j + 1) (led j s)) s))

-- One word more: a newline, or a name that is put into the table.
module _ (text work : List ℕ) (from : ℕ) (t : Table) where
  kept-start : NamesKept text work from from t
  kept-start = record { each = λ j a b. absurd (omega arith) }

  module _ (i : ℕ) (x : NamesKept text work from i t) where
    before_last : (j : ℕ) → j < i + 1 → (j ≡ i → ⊥) → j < i
    before_last j l o = by-test (ltb j i) (λ e. ltb-true j i e) (λ e. let m = ltb-false j i e in absurd (o (omega arith)))

    kept-newline : newline (word_of text work i) ≡ true → NamesKept text work from (i + 1) t
    kept-newline n =
        record {
          each = λ j a b w. by-test (eqb j i)
              (λ e. let same = eqb-true j i e in not-both w (rw same n))
              (λ e. x.each j a (before_last j b (eqb-false j i e)) w);
        }

    kept_more : (after : List ℕ) → NamePut text work after i t → (t.base < length work → i < 4294967295) → i < t.base → NamesKept text after from (i + 1) t
    kept_more after p small front =
        record {
          each = λ j a b w.
              let here : word_of text after j ≡ word_of text work j = word_kept text after work t.base p.front j (omega arith) in
              rw here (by-test (eqb j i)
              (λ e. let same = eqb-true j i e in rw same (p.new small))
              (λ e. p.old _ (j + 1) (omega arith) (x.each j a (before_last j b (eqb-false j i e)) (rw here at w))));
        }

-- Where there is no room for a table and its trie, nothing is asked of what is entered.
all-entered : (work : List ℕ) (t : Table) (name : List ℕ) (v : ℕ) → length work ≤ t.base → t.base ≤ t.end → t.end ≤ length work → Entered work t name v
all-entered work t name v none order within =
    let from = slot_of t (hash name) in
    let behind = slot-behind t (hash name) in
    record {
      place = from;
      ahead = omega arith;
      within = λ l. absurd (omega arith);
      taken = λ q a b. absurd (omega arith);
      holds = λ l. absurd (omega (arith, window-within t.end from));
      led = λ _ l. absurd (omega (arith, get_or-eq_default work 0 {n = t.end} (omega arith)));
    }

-- The index of a word was put into the table, where it has 32 bits.
pub name_put : (text before after : List ℕ) (i : ℕ) (t : Table) (v : ℕ) → (0 < v) × (i < 4294967295 → v ≡ i + 1) → t.base ≤ t.end → t.end ≤ length before
    → NameEntered before after t (name_of (word_of text before i)) v → NamePut text before after i t
name_put text before after i t v is order within f =
    record {
      size = f.size;
      front = f.front;
      new = λ small. by-test (ltb t.base (length before))
          (λ e. rw (is.1 (small (ltb-true t.base (length before) e))) at f.new)
          (λ e. all-entered after t (name_of (word_of text before i)) (i + 1) (omega (arith, f.size, ltb-false t.base (length before) e)) order (omega (arith, f.size)));
      old = f.old;
    }

-- The names up to here are different, and a table behind them has them; in front of it work memory is as it was.
pub record KeptNaming (text before : List ℕ) (from to : ℕ) (t : Table) (work : List ℕ) (i : ℕ) : Type 0 where
  pub naming : Naming text work from to i
  pub kept : NamesKept text work from i t
  pub size : length work ≡ length before
  pub front : take t.base work ≡ take t.base before

module _ {text before : List ℕ} {from to : ℕ} {t : Table} (room : NamesRoom before to t) where
  pub kept-naming-start : KeptNaming text before from to t before from
  kept-naming-start = record { naming = naming-start text before from to; kept = kept-start text before from t; size = refl; front = refl }

  module _ {work : List ℕ} {i : ℕ} (k : KeptNaming text before from to t work i) where
    pub kept-naming-newline : i < to → newline (word_of text work i) ≡ true → KeptNaming text before from to t work (i + 1)
    kept-naming-newline h e = record { naming = naming-newline text work from to i k.naming h e; kept = kept-newline text work from t i k.kept e; size = k.size; front = k.front }

    pub kept-naming-turn : i < to → newline (word_of text work i) ≡ false → given (label (word_of text work i)) ≡ true
        → known (name_of (word_of text work i)) (names_of (words (range text work from i))) ≡ false → {after : List ℕ} → NamePut text work after i t
        → KeptNaming text before from to t after (i + 1)
    kept-naming-turn h e g d {after} p =
        record {
          naming = naming-kept text after work t.base p.front from to (i + 1) (omega arith) room.front (naming-turn text work from to i k.naming h e g d);
          kept = kept_more text work from t i k.kept after p (λ s. omega (arith, room.few (omega (arith, k.size)))) (omega (arith, room.front));
          size = p.size ∙ k.size;
          front = p.front ∙ k.front;
        }

    -- What was judged by the words as they are now was judged by those that were there.
    pub names-judged : {r : Result ⊤ (Fault ℕ)} → judged (names_of (words (range text work from to))) r ≡ unique_names (words (range text work from to)) → NamesJudged text before work from to t.base r
    names-judged e = record { size = k.size; front = k.front; names = rw (range-kept text work before t.base k.front from to room.front) at e }

-- A table was cleared behind the words: it has room, and what was judged with it was judged by the words that were there.
module _ {before work : List ℕ} {to base place : ℕ} {t : Table} (behind : to ≤ base) (ahead : base ≤ place) (clear : Cleared before work place) (fits : TableFits place (length before) t) where
  pub cleared-judged : {text after : List ℕ} {from : ℕ} {r : Result ⊤ (Fault ℕ)} → NamesJudged text work after from to t.base r → NamesJudged text before after from to base r
  cleared-judged {text} {after} {from} k =
      let front : take place after ≡ take place before = rw fits.begins at k.front ∙ clear.front in
      record {
        size = k.size ∙ clear.size;
        front = sym (take-take base place after ahead) ∙ ap (take base) front ∙ take-take base place before ahead;
        names = rw (range-kept text work before place clear.front from to (omega arith)) at k.names;
      }
