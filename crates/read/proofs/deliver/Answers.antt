-- The function deliver meets its contract: what no record is longer than has room; or the place behind the record, in a scratch of one byte, measures
-- it. Assumes nothing.
use Rattle.lexer.specs.Places.{nowhere}
use Rattle.emit.proofs.Delivery.{roomy-delivered, short-delivered, whole-delivered}
use Rattle.reading.specs.RecordPut.{record_piece}
use Rattle.record.specs.Spell.{spell}
use native.Mathlib.Omega.{arith}
use Rattle.read.proofs.deliver.Goals as goal

pub returns-then-longest_record-buffer : goal.returns-then-longest_record-buffer
unfolding record_piece spell
returns-then-longest_record-buffer c few sound =
    roomy-delivered _ _ (omega (arith, c.well_formed.1.1.1.1.0)) (omega (arith, c.longest_record.ensures few sound, c.if-longest_record-buffer.true)) (c.put_record.ensures.put few)

pub returns-then-buffer-size : goal.returns-then-buffer-size
unfolding nowhere record_piece spell
returns-then-buffer-size c few sound =
    short-delivered _ _ (omega (arith, c.well_formed.1.1.1.1.0)) (c.put_record-size.ensures.put few) c.if-buffer-size.true

pub returns : goal.returns
unfolding record_piece spell
returns c few sound =
    whole-delivered _ _ (omega (arith, c.well_formed.1.1.1.1.0)) (c.put_record-size.ensures.put few) c.if-buffer-size.false (c.put_record-2.ensures.put few)
