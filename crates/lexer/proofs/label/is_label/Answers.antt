-- The function `is_label` meets its contract: a word or single-quoted text that is not all blank, and so one whose first byte is plain. Assumes nothing.
use Rattle.lexer.proofs.KindTags.{kind-named, kind-nameless}
use Rattle.lexer.proofs.LabelLaws.{label-given}
use Rattle.lexer.proofs.NextBytes.{front-left}
use Rattle.lexer.proofs.WordsTold.{plain_label}
use Rattle.lexer.specs.ByteBlocks.{is_plain}
use Rattle.lexer.specs.Lexing.{word_at}
use mathlib.Core.Bool.{false≢true}
use mathlib.Core.Path.{sym, ap, ◌∙◌}
use Rattle.lexer.proofs.label.is_label.Goals as goal
use Rattle.lexer.proofs.label.is_label.Goals.{in-Word, in_default}

pub returns-then-plain : goal.returns-then-plain
returns-then-plain c = sym (plain_label _ _ (ap is_plain (sym c.byte_or_zero.ensures) ∙ sym c.plain.ensures ∙ c.if-plain.true))

pub returns-then-matches : goal.returns-then-matches
unfolding word_at
returns-then-matches c =
    let text = front-left _ _ _ c.text_start.ensures in
    elim c.match-matches.branch [
      | in-Word w ↦ rw (label-given, ← c.kind_at.ensures, kind-named _ w.in-Word.is, ← text, c.blank_text.ensures)
      | in_default w ↦ absurd (false≢true (sym w.matches-is ∙ c.if-matches.true))
    ]

pub returns-else-matches : goal.returns-else-matches
unfolding word_at
returns-else-matches c =
    elim c.match-matches.branch [
      | in-Word w ↦ absurd (false≢true (sym c.if-matches.false ∙ w.matches-is))
      | in_default w ↦ rw (label-given, ← c.kind_at.ensures, kind-nameless _ w.in_default.not-Word w.in_default.not-Quoted, c.if-matches.false)
    ]
