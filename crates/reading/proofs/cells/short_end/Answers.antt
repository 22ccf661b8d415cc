use Rattle.reading.proofs.OptionLaws.{no-some}
use Rattle.reading.proofs.ShortLaws.{byte-none, byte-some, shorts-more}
use mathlib.Core.Path.{◌≡◌, sym, ◌∙◌}
use native.Mathlib.Omega.{arith}
use Rattle.reading.proofs.cells.short_end.Goals as goal

pub returns-then-is_none : goal.returns-then-is_none
returns-then-is_none c =
    let none = no-some _ c.if-is_none.ensures in
    record {
      ahead = omega arith;
      within = omega arith;
      short = c.loop-i.invariant.each;
      stopped = λ h. byte-none _ (sym none ∙ rw c.entry_of.ensures at c.cell_byte.ensures);
    }

pub loop-i-preserved : goal.loop-i-preserved
loop-i-preserved c =
    shorts-more _ _ _ _ c.loop-i.invariant (byte-some _ (rw c.entry_of.ensures at c.cell_byte.ensures) c.if-is_none.ensures)

pub returns : goal.returns
returns c =
    let last : c.loop-i.i ≡ c.args.end = omega arith in
    record { ahead = c.requires.0; within = omega arith; short = rw last at c.loop-i.invariant.each; stopped = λ h. absurd (omega arith) }
