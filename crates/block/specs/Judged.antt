-- What a judgement of the code means: the value that what was judged has, or the refusal.
use Rattle.std.specs.Prelude.{Ok, Err, Result, ⊤, ℕ}
use Rattle.block.specs.Outcome.{Outcome, done, refused}
use Rattle.lexer.specs.declared.Fault.{Fault}

module _ {A : Type 0} where
  unfoldable pub judged : A → Result ⊤ (Fault ℕ) → Outcome A
  judged a (Ok u) = done a
  judged a (Err f) = refused f.0 f.1
