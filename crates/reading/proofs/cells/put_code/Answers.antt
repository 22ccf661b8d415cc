-- The function `put_code` meets its contract: a cell of one byte, or by the ranges of codes. Assumes nothing.
use Rattle.block.specs.Chunk.{set_cell}
use Rattle.emit.proofs.PutLaws.{puts-as, puts_none}
use Rattle.reading.proofs.DecodedLaws.{decoded-none, decoded-set, decoded-state}
use Rattle.reading.proofs.ShortLaws.{byte-given, byte-none, long-gap, long-missing, short-spell}
use Rattle.reading.specs.CodedCells.{spell_maybe}
use Rattle.record.specs.Spell.{spell_cell}
use mathlib.Core.Path.{sym, ◌∙◌}
use native.Mathlib.Omega.{arith}
use Rattle.reading.proofs.cells.put_code.Goals as goal

pub returns-in-Some : goal.returns-in-Some
returns-in-Some c =
    let given = byte-given _ _ (sym c.in-Some.is ∙ c.cell_byte.ensures) in
    puts-as c.put.ensures (λ behind. rw given.0 (sym (short-spell _ given.1 behind)))

pub returns-in-0-to-95 : goal.returns-in-0-to-95
unfolding spell_maybe spell_cell set_cell
returns-in-0-to-95 c = puts-as c.put_decimal.ensures (λ behind. rw (decoded-state c.args.code (omega arith)))

pub returns-in-96-to-111 : goal.returns-in-96-to-111
unfolding spell_maybe spell_cell set_cell
returns-in-96-to-111 c =
    puts-as c.put_bits.ensures (λ behind. rw (decoded-set c.args.code (omega arith) (omega arith)))

pub returns-in_default-code : goal.returns-in_default-code
unfolding spell_maybe spell_cell set_cell
returns-in_default-code c =
    let long = byte-none _ (sym c.in_default.is ∙ c.cell_byte.ensures) in
    puts-as puts_none (λ behind. rw (decoded-none c.args.code (omega arith) (long-missing _ long) (long-gap _ long)))
