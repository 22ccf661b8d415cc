-- Behind lexing, work memory is enough, and its words are the numbered tokens of the text. Assumes nothing.
use Rattle.std.specs.Prelude.{Ok}
use Prim.Native.Nat.{ℕ}
use Rattle.block.proofs.TokensWeigh.{tokens-weigh}
use Rattle.commands.specs.Stepping.{Enough}
use Rattle.lexer.proofs.LexedAnswers.{tokens-lexed}
use Rattle.lexer.proofs.RangeLaws.{range-stored}
use Rattle.lexer.specs.Lexing.{lexed, longest, work_needed}
use Rattle.lexer.specs.Stored.{Stored, range}
use Rattle.lexer.specs.Tokens.{tokens}
use Rattle.lexer.specs.Words.{numbered}
use lib.ListN.{length}
use mathlib.Core.List.{List}
use mathlib.Core.Path.{◌≡◌}
use native.Mathlib.Omega.{arith}

module _ (text work : List ℕ) (n : ℕ) (told : Ok n ≡ lexed text (length work)) (k : Stored text work n) where
  pub lexed-enough : Enough text work n
  unfolding longest work_needed
  lexed-enough =
      let l = tokens-lexed text (length work) n told in
      let w = tokens-weigh text work n l.closed k in
      record { bytes = l.short; tokens = w.1; weighed = w.0; room = l.room }

  pub lexed-range : range text work 0 n ≡ numbered 0 (tokens text)
  lexed-range = range-stored text work (tokens-lexed text (length work) n told).closed n k 0 (omega arith)
