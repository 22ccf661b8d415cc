-- The walk over the words of a sequential matrix: what its turns keep, and what they come to. Assumes nothing.
use Rattle.block.specs.Outcome.{Outcome, done, refused}
use Rattle.std.specs.Prelude.{None, Err, Option, Result}
use Prim.Native.Nat.{ℕ, ◌+◌, ◌*◌, ◌≤◌, ◌<◌}
use Rattle.block.proofs.OutcomeLaws.{All, all_one}
use Rattle.block.specs.Codes.{Coded}
use Rattle.block.specs.Commands.{newline}
use Rattle.block.specs.Format.{Format}
use Rattle.lexer.proofs.RangeLaws.{word_kept, range-kept}
use Rattle.lexer.proofs.SmallBytes.{Small}
use Rattle.lexer.specs.Stored.{word_of}
use Rattle.lexer.specs.declared.refusal.Refusal.{Refusal}
use Rattle.matrix.proofs.BelowLaws.{each_below}
use Rattle.matrix.proofs.RowBounds.{Named, Bounded, turn-bounded}
use Rattle.matrix.proofs.RowNames.{stored-count}
use Rattle.matrix.proofs.StoredRows.{cleared-front, names-kept, rows-kept}
use Rattle.matrix.proofs.WalkedRows.{Walked, walked_start, walked-newline, walked_on, walked-full, walked-refused, walked_end, refused-rows, end-count}
use Rattle.matrix.specs.Lines.{RowsRoom, row_at, stored, names_stored, rows_sequential}
use Rattle.matrix.specs.RowIndex.{Indexed, RowRoom, RowPut}
use Rattle.matrix.specs.SequentialShape.{RowsRead, Turns, cells_of_row, end_shape, last, on, sequenced, turn_shape}
use Rattle.matrix.specs.declared.matrix.Turned.{Turned}
use Rattle.slots.specs.Filling.{Cleared, TableFits}
use Rattle.slots.specs.declared.Table.{Table}
use Rattle.lexer.specs.declared.Fault.{Fault}
use Rattle.lexer.specs.Refusals.{fault}
use Rattle.matrix.specs.declared.matrix.Chunk.{Chunk}
use lib.ListN.{length, take, length-map}
use mathlib.Core.Bool.{true, false}
use mathlib.Core.List.{List}
use mathlib.Core.Path.{◌≡◌, refl, sym, ◌∙◌}
use native.Mathlib.Omega.{arith}

-- Work memory is kept in front of the rows. No more of them are stored than there were words, each the index of a token, and a table has them; the row
-- that is open has few cells; and for every format with these codes, what is read from here on is what all of it is read as.
pub record Sequencing (text codes before : List ℕ) (at from to taxa n head : ℕ) (t : Table) (work : List ℕ) (rows : ℕ) (line : Option (ℕ × Chunk)) (i : ℕ) : Type 0 where
  pub size : length work ≡ length before
  pub kept : take at work ≡ take at before
  pub few : rows ≤ i
  pub within : rows ≤ to
  pub starts : All (λ s. s < at) (stored work at rows)
  pub indexed : Indexed text work at rows t
  pub cells : cells_of_row line ≤ 1048577 * i
  pub named : Named to line
  pub each : (f : Format) → Coded f codes → length f.symbols ≤ 74 → Walked text before from to taxa n head f (stored work at rows) line i

module _ {text codes before : List ℕ} {at from to taxa n head : ℕ} {t : Table} where
  -- a table has no rows at first, whatever it holds
  pub sequencing-start : Sequencing text codes before at from to taxa n head t before 0 None from
  unfolding cells_of_row stored
  sequencing-start =
      record {
        size = refl;
        kept = refl;
        few = omega arith;
        within = omega arith;
        starts = tt;
        indexed = record { each = λ k l. absurd (omega arith) };
        cells = omega arith;
        named = tt;
        each = λ f c few. walked_start text before from to taxa n head f;
      }

  module _ (room : RowsRoom text before at to) {work : List ℕ} {rows : ℕ} {line : Option (ℕ × Chunk)} {i : ℕ} (k : Sequencing text codes before at from to taxa n head t work rows line i) where
    counted : (f : Format) → length (rows_sequential text before f n to (stored work at rows)) ≡ rows
    unfolding rows_sequential
    counted f = length-map (stored work at rows) (row_at text before f n to) ∙ stored-count work at rows (omega (arith, k.within, k.size, room.behind))

    pub sequencing-end : {r : Result ℕ (Fault ℕ)} → r ≡ end_shape taxa head rows line → to ≤ i → RowsRead text codes before work at from to taxa n head r
    sequencing-end {r} e h =
        record {
          size = k.size;
          kept = k.kept;
          few = λ m d. let z = end-count taxa head rows line m (sym e ∙ d) in omega (arith, z.0, k.within);
          count = λ m d. let z = end-count taxa head rows line m (sym e ∙ d) in z.0 ∙ z.1;
          below = λ m d. rw (end-count taxa head rows line m (sym e ∙ d)).0 (each_below at (stored work at rows) k.starts);
          read = λ f c few.
              let same = rows-kept text work before at k.kept f n to room.apart (stored work at rows) k.starts in
              rw e (walked_end text before from to taxa n head f (stored work at rows) line i (k.each f c few) work at rows (counted f) same h);
        }

    module _ (h : i < to) where
      -- the word is that of work memory as it was
      same_word : word_of text work i ≡ word_of text before i
      same_word = word_kept text work before at k.kept i (omega (arith, room.apart))

      sequencing-room : at + rows < length work
      sequencing-room = omega (arith, k.few, k.size, room.behind)

      pub sequencing-newline : newline (word_of text work i) ≡ true → Sequencing text codes before at from to taxa n head t work rows line (i + 1)
      sequencing-newline e =
          record {
            size = k.size;
            kept = k.kept;
            few = omega (arith, k.few);
            within = k.within;
            starts = k.starts;
            indexed = k.indexed;
            cells = omega (arith, k.cells);
            named = k.named;
            each = λ f c few. walked-newline text before from to taxa n head f (stored work at rows) line i (k.each f c few) h (rw same_word at e);
          }

-- A word that was judged at such a place: what it came to.
pub record Judging (text codes before : List ℕ) (at from to taxa n head : ℕ) (t : Table) (work : List ℕ) (rows : ℕ) (line : Option (ℕ × Chunk)) (i : ℕ) (r : Outcome Turned) : Type 0 where
  pub room : RowsRoom text before at to
  pub place : Sequencing text codes before at from to taxa n head t work rows line i
  pub below : i < to
  pub small : Small text
  pub word : newline (word_of text work i) ≡ false
  pub turned : r ≡ turn_shape codes taxa n (names_stored text work (stored work at rows)) line (word_of text work i)

module _ {text codes before : List ℕ} {at from to taxa n head : ℕ} {t : Table} {work : List ℕ} {rows : ℕ} {line : Option (ℕ × Chunk)} {i : ℕ} {r : Outcome Turned} (j : Judging text codes before at from to taxa n head t work rows line i r) where
  abbrev k : Sequencing text codes before at from to taxa n head t work rows line i
  k = j.place

  word : newline (word_of text before i) ≡ false
  word = rw (same_word j.room k j.below) at j.word

  as_before : turn_shape codes taxa n (names_stored text before (stored work at rows)) line (word_of text before i) ≡ r
  as_before = rw (← same_word j.room k j.below, ← names-kept text work before at k.kept (stored work at rows) k.starts) (sym j.turned)

  bounded : Bounded (length text) (cells_of_row line) to r
  bounded = rw j.turned (turn-bounded text work codes taxa n to (names_stored text work (stored work at rows)) i j.below line k.named)

  sequencing-named : (s : ℕ) → r ≡ done (Turned.Full s) → s < to
  sequencing-named s d = rw d at bounded

  sequencing-on : (next : Option (ℕ × Chunk)) → r ≡ done (Turned.On next) → Sequencing text codes before at from to taxa n head t work rows next (i + 1)
  sequencing-on next d =
      let b : Bounded (length text) (cells_of_row line) to (done (Turned.On next)) = rw d at bounded in
      record {
        size = k.size;
        kept = k.kept;
        few = omega (arith, k.few);
        within = k.within;
        starts = k.starts;
        indexed = k.indexed;
        cells = omega (arith, k.cells, b.0, j.room.bytes);
        named = b.1;
        each = λ f c few. walked_on text before from to taxa n head f (stored work at rows) line i (k.each f c few) j.below c few j.small word next (as_before ∙ d);
      }

  -- there is room for a row that is full
  pub sequencing-put : TableFits (at + to) (length before) t → (s : ℕ) → r ≡ done (Turned.Full s) → RowRoom work at rows s t
  sequencing-put fits s d =
      record {
        front = omega (arith, k.few, j.below, fits.begins);
        order = omega (arith, fits.begins, fits.ahead);
        space = sequencing-room j.room k j.below;
        table = omega (arith, fits.within, k.size);
        sound = fits.sound;
        few = omega (arith, k.within, j.room.tokens);
        word = omega (arith, sequencing-named s d, j.room.tokens);
      }

  sequencing-full : (s : ℕ) → r ≡ done (Turned.Full s) → {after : List ℕ} → RowPut text work after at rows s t true → Sequencing text codes before at from to taxa n head t after (rows + 1) None (i + 1)
  unfolding cells_of_row
  sequencing-full s d p =
      let under : s < at = omega (arith, sequencing-named s d, j.room.apart) in
      record {
        size = p.size ∙ k.size;
        kept = p.kept ∙ k.kept;
        few = omega (arith, k.few);
        within = omega (arith, k.few);
        starts = rw p.more (all_one (λ s. s < at) (stored work at rows) s k.starts under);
        indexed = p.indexed refl (each_below at (stored work at rows) k.starts) under k.indexed;
        cells = omega arith;
        named = tt;
        each = λ f c few. rw p.more (walked-full text before from to taxa n head f (stored work at rows) line i (k.each f c few) j.below c few j.small word s (as_before ∙ d));
      }

  pub sequencing-refused : (m : Refusal) (p : ℕ) → r ≡ refused m p → RowsRead text codes before work at from to taxa n head (Err (fault m p))
  unfolding sequenced
  sequencing-refused m p d =
      record {
        size = k.size;
        kept = k.kept;
        few = λ x y. refused-rows y;
        count = λ x y. refused-rows y;
        below = λ x y. refused-rows y;
        read = λ f c few. walked-refused text before from to taxa n head f (stored work at rows) line i (k.each f c few) j.below c few j.small word m p (as_before ∙ d);
      }

-- Several words that were judged: the last of them, and the index behind it.
pub record JudgedLast (text codes before : List ℕ) (at from to taxa n head : ℕ) (t : Table) (work : List ℕ) (rows : ℕ) (r : Outcome Turned) (j : ℕ) : Type 0 where
  pub line : Option (ℕ × Chunk)
  pub i : ℕ
  pub judging : Judging text codes before at from to taxa n head t work rows line i r
  pub next : j ≡ i + 1

module _ {text codes before : List ℕ} {at from to taxa n head : ℕ} {t : Table} {work : List ℕ} {rows : ℕ} (room : RowsRoom text before at to) (small : Small text) where
  pub turns-judged : {line : Option (ℕ × Chunk)} {i : ℕ} {r : Outcome Turned} {j : ℕ} → Sequencing text codes before at from to taxa n head t work rows line i → i < to
      → newline (word_of text work i) ≡ false → Turns text work codes to taxa n (names_stored text work (stored work at rows)) line i r j
      → JudgedLast text codes before at from to taxa n head t work rows r j
  turns-judged {line} {i} p h w (last e d) =
      record { line = line; i = i; judging = record { room = room; place = p; below = h; small = small; word = w; turned = d }; next = e }
  turns-judged {line} {i} p h w (on next k e d l v more) =
      turns-judged (rw e (sequencing-on (record { room = room; place = p; below = h; small = small; word = w; turned = sym d }) next refl)) l v more

module _ {text codes before : List ℕ} {at from to taxa n head : ℕ} {t : Table} {work : List ℕ} {rows : ℕ} {r : Outcome Turned} {j : ℕ} (l : JudgedLast text codes before at from to taxa n head t work rows r j) where
  pub judged-on : (next : Option (ℕ × Chunk)) → r ≡ done (Turned.On next) → Sequencing text codes before at from to taxa n head t work rows next j
  judged-on next d = rw l.next (sequencing-on l.judging next d)

  pub judged-full : (s : ℕ) → r ≡ done (Turned.Full s) → {after : List ℕ} → RowPut text work after at rows s t true → Sequencing text codes before at from to taxa n head t after (rows + 1) None j
  judged-full s d p = rw l.next (sequencing-full l.judging s d p)

-- A table was cleared behind the rows before they were read.
pub read-cleared : {text codes before work after : List ℕ} {at from to taxa n head : ℕ} {r : Result ℕ (Fault ℕ)} → RowsRoom text before at to → Cleared before work (at + to)
    → RowsRead text codes work after at from to taxa n head r → RowsRead text codes before after at from to taxa n head r
read-cleared {text} {codes} {before} {work} {after} {at} {from} {to} room c k =
    let front = cleared-front before work at (at + to) c (omega arith) in
    record {
      size = k.size ∙ c.size;
      kept = k.kept ∙ front;
      few = k.few;
      count = k.count;
      below = k.below;
      read = rw (range-kept text work before at front from to room.apart) at k.read;
    }
