-- The function `put_gap` meets its contract. Assumes nothing.
use Rattle.emit.proofs.PutLaws.{puts-as, puts_none, puts_then}
use Rattle.lexer.specs.Base.{bytes, pick}
use Rattle.record.specs.Form.{gap_option}
use Rattle.writing.proofs.formats.put_gap.Goals as goal

pub returns-then-not-gaps : goal.returns-then-not-gaps
unfolding gap_option pick
returns-then-not-gaps c = puts-as puts_none (λ behind. rw c.if-not-gaps.true)

pub returns : goal.returns
unfolding gap_option bytes pick
returns c = puts-as (puts_then c.put_all-at.ensures c.put.ensures) (λ behind. rw c.if-not-gaps.false)
