-- The function `judge_characters` meets its contract: the characters do not stand there, something stands behind them or DNA has an ordered one, or the bytes are a record. Assumes nothing.
use mathlib.Core.Path.{refl}
use Rattle.judging.proofs.RecordParts.{judged-no-characters, judged-otherwise}
use Rattle.judging.proofs.WholeJudged.{judged-whole}
use Rattle.judging.proofs.RecordReads.{dna-otherwise}
use Prim.Native.Nat.{◌-◌}
use Rattle.judging.specs.Whole.{is_dna}
use mathlib.Core.Path.{sym, ap, ◌∙◌}
use Rattle.judging.proofs.whole.judge_characters.Goals.{in-Dna, in_default}
use Rattle.judging.proofs.whole.judge_characters.Goals as goal

pub returns-in_err-end : goal.returns-in_err-end
returns-in_err-end c = rw c.from_residual.ensures (λ told fine. judged-no-characters _ _ _ told _ _ fine.rows _ c.in_err-end.ensures refl)

pub returns-then-end-source : goal.returns-then-end-source
unfolding is_dna
returns-then-end-source c = λ told fine. judged-otherwise _ _ _ told _ _ fine.rows _ _ _ _ c.in_ok-end.ensures refl _ (elim c.match-matches.branch [ in-Dna w ↦ w.matches-is ∙ sym (rw w.in-Dna.is) | in_default w ↦ w.matches-is ∙ dna-otherwise _ w.in_default.not-Dna ]) c.if-end-source.true

pub returns : goal.returns
unfolding is_dna
returns c = λ told fine. judged-whole _ _ _ told _ _ fine.rows _ _ _ _ c.in_ok-end.ensures refl fine.room fine.differ _ (elim c.match-matches.branch [ in-Dna w ↦ w.matches-is ∙ sym (rw w.in-Dna.is) | in_default w ↦ w.matches-is ∙ dna-otherwise _ w.in_default.not-Dna ]) c.if-end-source.false _ refl refl refl refl (λ h. c.saturating_sub-2.ensures ∙ ap (λ n. n - c.args.head.states) c.saturating_sub.ensures) refl refl refl refl refl
