-- The function `key_at` meets its contract: a turn compares one byte more. Assumes nothing.
use Rattle.judging.proofs.KeyLaws.{Compared}
use Rattle.judging.proofs.keys.key_at.Given as goal

abbrev pub invariant-loop-k : goal.invariant-loop-k
invariant-loop-k l = Compared l.source l.i l.word l.same l.k
