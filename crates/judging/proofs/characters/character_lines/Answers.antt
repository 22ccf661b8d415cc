use mathlib.Core.Path.{refl}
use Rattle.judging.proofs.CharactersTold.{characters-over, characters-short, characters-start, characters-step}
use Rattle.judging.proofs.characters.character_lines.Goals as goal

pub loop-k-init : goal.loop-k-init
loop-k-init c = characters-start _ _ _ _

pub returns-in_err-j : goal.returns-in_err-j
returns-in_err-j c = rw c.from_residual.ensures (characters-short c.loop-k.invariant c.loop-k-test.true c.in_err-j.ensures refl)

pub loop-k-preserved : goal.loop-k-preserved
loop-k-preserved c = characters-step c.loop-k.invariant c.loop-k-test.true c.in_ok-j.ensures _ _ _ refl

pub returns : goal.returns
returns c = characters-over c.loop-k.invariant c.loop-k-test.false
