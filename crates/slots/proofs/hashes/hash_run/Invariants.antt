-- The function `hash_run` meets its contract. A turn takes one byte more, and keeps what all of them come to. Assumes nothing.
use Rattle.lexer.specs.PlainWords.{part}
use Rattle.slots.proofs.HashLaws.{HashingRun}
use Rattle.slots.proofs.hashes.hash_run.Given as goal

abbrev pub invariant-loop-b : goal.invariant-loop-b
invariant-loop-b l = HashingRun (part l.text l.from l.end) l.b-index l.h
