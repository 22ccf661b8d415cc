-- A matrix that was read, sequential or interleaved: its rows mean the same by the front of work memory, and all is kept that is promised of them.
-- Assumes nothing.
use Rattle.std.specs.Prelude.{Ok, Err, Result}
use Prim.Native.Nat.{ℕ, ◌≤◌, ◌<◌}
use Rattle.block.proofs.LinesLight.{pages-light, sequence-light}
use Rattle.block.proofs.OutcomeLaws.{All}
use Rattle.block.proofs.Weights.{words-light}
use Rattle.block.specs.Blocks as B
use Rattle.block.specs.Codes.{Coded}
use Rattle.block.specs.Commands.{words}
use Rattle.block.specs.Format.{Format}
use Rattle.block.specs.Interleaved.{interleaved}
use Rattle.block.specs.Outcome.{done}
use Rattle.block.specs.Sequential.{Shape, names, sequential}
use Rattle.lexer.specs.Base.{pick}
use Rattle.lexer.specs.Stored.{range}
use Rattle.matrix.proofs.BelowLaws.{below_each, below-front}
use Rattle.matrix.proofs.StoredLines.{pages-kept}
use Rattle.matrix.proofs.StoredRows.{rows-kept, rows-names}
use Rattle.matrix.specs.Lines.{RowsRoom, stored, rows_sequential}
use Rattle.matrix.specs.OrderHeld.{all_below}
use Rattle.matrix.specs.PagesHeld.{PagesRead, pages_held, paged}
use Rattle.matrix.specs.RowsHeld.{RowsTaken, rows_held, rows_answer}
use Rattle.matrix.specs.SequentialShape.{RowsRead, sequenced}
use Rattle.lexer.specs.declared.Fault.{Fault}
use lib.ListN.{length, take, drop}
use lib.Seq.{take-take}
use mathlib.Core.Bool.{true, false}
use mathlib.Core.List.{List}
use mathlib.Core.Path.{◌≡◌, refl, sym, ap, ◌∙◌}
use native.Mathlib.Omega.{arith}

-- Rows mean the same where work memory was kept up to an index that their tokens do not reach.
module _ (text work before : List ℕ) (at : ℕ) (kept : take at work ≡ take at before) (f : Format) (taxa characters to : ℕ) (h : to ≤ at) where
  held_kept : (starts : List ℕ) → All (λ s. s < at) starts → rows_held text work f taxa characters to starts ≡ rows_held text before f taxa characters to starts
  unfolding rows_held
  held_kept starts a = rw (pages-kept text work before at kept f taxa to h starts a, rows-kept text work before at kept f characters to h starts a)

module _ (text codes before after : List ℕ) (at from to taxa characters head : ℕ) (f : Format) (c : Coded f codes) (few : length f.symbols ≤ 74) (room : RowsRoom text before at to) where
  abbrev sh : Shape
  sh = record { taxa = taxa; characters = characters; format = f; head = head }

  front-held : (starts : List ℕ) → all_below at starts → rows_held text (take at after) f taxa characters to starts ≡ rows_held text after f taxa characters to starts
  front-held starts b = held_kept text (take at after) after at (take-take at at after (omega arith)) f taxa characters to room.apart starts (below_each at starts b)

  -- A sequential matrix.
  module _ (e : f.interleave ≡ false) where
    as-sequence : (starts : List ℕ) → all_below at starts → rows_held text (take at after) f taxa characters to starts ≡ rows_sequential text after f characters to starts
    unfolding rows_held pick
    as-sequence starts b = front-held starts b ∙ rw e

    sequence-answer : (r : Result ℕ (Fault ℕ)) → ((n : ℕ) → r ≡ Ok n → all_below at (stored after at n)) → rows_answer text after at f taxa characters to r ≡ sequenced text after at f characters to r
    unfolding rows_answer sequenced
    sequence-answer (Ok n) b = ap done (as-sequence (stored after at n) (b n refl))
    sequence-answer (Err f) b = refl

    sequence-rows : B.rows sh (range text before from to) ≡ sequential sh (words (range text before from to))
    unfolding B.rows pick
    sequence-rows = rw e

    pub sequence-taken : {r : Result ℕ (Fault ℕ)} → RowsRead text codes before after at from to taxa characters head r → RowsTaken text before after at from to taxa characters head f r
    unfolding sequenced
    sequence-taken {r} k =
        record {
          size = k.size;
          kept = k.kept;
          read = sequence-answer r k.below ∙ k.read f c few ∙ sym sequence-rows;
          named = λ n d. ap names (as-sequence (stored after at n) (k.below n d)) ∙ rows-names text after f characters to (stored after at n) ∙ rw (k.count n d);
          below = λ n d. rw (← k.count n d) (k.below n d);
          few = k.few;
          rows_few = λ n d. omega (arith, k.count n d);
          light = λ n d some.
              let read = rw d at (k.read f c few) in
              let all = sequence-light sh (words (range text before from to)) (rows_sequential text after f characters to (stored after at n)) (sym read) some in
              omega (arith, k.count n d, all, words-light (range text before from to));
        }

  -- An interleaved matrix.
  module _ (e : f.interleave ≡ true) where
    as-pages : (starts : List ℕ) → all_below at starts → rows_held text (take at after) f taxa characters to starts ≡ pages_held text after f taxa to starts
    unfolding rows_held pick
    as-pages starts b = front-held starts b ∙ rw e

    pages-answer : (r : Result ℕ (Fault ℕ)) → ((n : ℕ) → r ≡ Ok n → all_below at (stored after at n)) → rows_answer text after at f taxa characters to r ≡ paged text after at f taxa to r
    unfolding rows_answer paged
    pages-answer (Ok n) b = ap done (as-pages (stored after at n) (b n refl))
    pages-answer (Err f) b = refl

    pages-rows : B.rows sh (range text before from to) ≡ interleaved sh (range text before from to)
    unfolding B.rows pick
    pages-rows = rw e

    first_below : (n : ℕ) → taxa ≤ n → all_below at (stored after at n) → all_below at (stored after at taxa)
    unfolding stored
    first_below n h b = rw (take-take taxa n (drop at after) h) at (below-front at taxa (stored after at n) b)

    pub pages-taken : {r : Result ℕ (Fault ℕ)} → PagesRead text codes before after at from to taxa characters head r → RowsTaken text before after at from to taxa characters head f r
    unfolding paged
    pages-taken {r} k =
        record {
          size = k.size;
          kept = k.kept;
          read = pages-answer r k.below ∙ k.read f c few ∙ sym pages-rows;
          named = λ n d. ap names (as-pages (stored after at n) (k.below n d)) ∙ k.named f c few n d;
          below = λ n d. first_below n (k.enough f c few n d) (k.below n d);
          few = k.few;
          rows_few = k.enough f c few;
          light = λ n d some.
              let read = rw d at (k.read f c few) in
              let all = pages-light sh (range text before from to) (pages_held text after f taxa to (stored after at n)) (sym read) some in
              omega (arith, k.count n d, all);
        }
