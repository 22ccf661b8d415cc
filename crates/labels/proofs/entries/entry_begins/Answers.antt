-- The function `entry_begins` meets its contract: one test after the other. Assumes nothing.
use Rattle.labels.proofs.EntryTurns.{begins-comma, begins-outside, begins-number}
use Rattle.labels.proofs.LabelSlotLaws.{held-length}
use Rattle.labels.specs.LabelEntries.{entered}
use Rattle.lexer.specs.Stored.{word_of}
use mathlib.Core.Path.{sym, ◌∙◌}
use Rattle.labels.proofs.entries.entry_begins.Goals as goal

pub returns-then-punct-clause-entered : goal.returns-then-punct-clause-entered
unfolding entered
returns-then-punct-clause-entered c =
    λ ws. begins-comma _ _ ws _ _ (sym c.punct.ensures ∙ c.if-punct.true)

pub returns-then-k-room-clause-entered : goal.returns-then-k-room-clause-entered
returns-then-k-room-clause-entered c =
    λ ws. c.entry_number.ensures.entered _ ∙ sym (begins-number _ _ ws _ _ (sym c.punct.ensures ∙ c.if-punct.false) _ c.number-k.ensures _ (held-length _ _ _ _) c.if-k-room.true)

pub returns-clause-entered : goal.returns-clause-entered
unfolding entered word_of
returns-clause-entered c =
    λ ws. begins-outside _ _ ws _ _ (sym c.punct.ensures ∙ c.if-punct.false) _ c.number-k.ensures _ (held-length _ _ _ _) c.if-k-room.false
