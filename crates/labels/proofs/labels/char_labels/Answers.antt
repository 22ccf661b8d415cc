-- The function `char_labels` meets its contract: the count of words, and then each label. Assumes nothing.
use Rattle.block.specs.Judged.{judged}
use Rattle.labels.proofs.EachLabelled.{count-right, count-wrong}
use mathlib.Core.Path.{sym, ◌∙◌}
use Rattle.labels.proofs.labels.char_labels.Goals as goal

pub returns-then-count_words-room-clause-labelled : goal.returns-then-count_words-room-clause-labelled
unfolding judged
returns-then-count_words-room-clause-labelled c = sym (count-wrong _ _ _ _ _ _ _ c.count_words.ensures c.if-count_words-room.true)

pub returns-clause-labelled : goal.returns-clause-labelled
returns-clause-labelled c =
    c.label_each.ensures.labelled ∙ sym (count-right _ _ _ _ _ _ _ c.count_words.ensures c.if-count_words-room.false)
