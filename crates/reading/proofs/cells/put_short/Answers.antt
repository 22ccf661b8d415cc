-- The function `put_short` meets its contract: nothing is put, or cells of one byte each are counted or written. Assumes nothing.
use Rattle.reading.proofs.RunPieces.{part_none}
use Rattle.reading.proofs.ShortLaws.{Shorts, short-beyond, short_row}
use borrow.Author.Rules.{rules}
use borrow.Author.Tests.{not-false}
use mathlib.Core.Bool.{true}
use mathlib.Core.Path.{◌≡◌}
use native.Mathlib.Omega.{arith}
use Rattle.reading.proofs.cells.put_short.Goals as goal

pub returns-then-not-row : goal.returns-then-not-row
returns-then-not-row c =
    let a = c.args in
    record { ahead = omega arith; within = search rules; put = part_none a.codes.now a.text.now a.from }

pub returns-then-buffer-at : goal.returns-then-buffer-at
returns-then-buffer-at c =
    let a = c.args in
    let e = c.short_end-stop.ensures in
    let begun : a.row.started ≡ true = not-false _ c.if-not-row.false in
    let short : Shorts a.codes.now a.text.now a.from c.short_end-stop.result = record { each = e.short } in
    let beyond = short-beyond _ _ _ _ e.ahead (omega arith) short a.row begun {buffer = a.buffer.now} _ c.if-buffer-at.true (omega arith) c.place_behind.ensures in
    record { ahead = e.ahead; within = e.within; put = rw c.row_behind.ensures (short_row _ _ _ _ e.ahead (omega arith) short a.row begun beyond) }

pub returns-then-buffer-at-2 : goal.returns-then-buffer-at-2
returns-then-buffer-at-2 c =
    let a = c.args in
    record { ahead = omega arith; within = search rules; put = part_none a.codes.now a.text.now a.from }

pub returns : goal.returns
returns c =
    let a = c.args in
    let e = c.write_short-next.ensures in
    let short : Shorts a.codes.now a.text.now a.from c.write_short-next.result = record { each = e.short } in
    let begun : a.row.started ≡ true = not-false _ c.if-not-row.false in
    record {
      ahead = e.ahead;
      within = e.within;
      put = rw c.row_behind-2.ensures (short_row _ _ _ _ e.ahead (omega (arith, e.ahead, e.within, c.requires.1)) short a.row begun e.written);
    }
