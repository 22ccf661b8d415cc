-- What lexing leaves in work memory is read rightly. Assumes nothing.
use Rattle.std.specs.Prelude.{Ok, Result}
use Prim.Native.Nat.{ℕ}
use Rattle.block.specs.Parse.{parse, parse_from}
use Rattle.commands.proofs.AnswerLaws.{answers-right}
use Rattle.lexer.proofs.LexedAnswers.{tokens-lexed}
use Rattle.lexer.proofs.StoredLaws.{stored-count}
use Rattle.lexer.specs.Lexing.{lexed}
use Rattle.lexer.specs.Stored.{Stored}
use Rattle.lexer.specs.Tokens.{tokens}
use Rattle.lexer.specs.Words.{numbered}
use Rattle.parser.proofs.LexedEnough.{lexed-enough, lexed-range}
use Rattle.parser.specs.ParsedHeld.{parsed_held}
use Rattle.parser.specs.Steps.{ParseMade}
use Rattle.lexer.specs.declared.Fault.{Fault}
use Rattle.commands.specs.declared.state.Held.{Held}
use lib.ListN.{length}
use mathlib.Core.List.{List}
use mathlib.Core.Path.{◌≡◌, sym, ap, ◌∙◌}

pub parse-lexed : (text before after : List ℕ) (n : ℕ) (r : Result Held (Fault ℕ)) → Ok n ≡ lexed text (length before) → Stored text before n → ParseMade text before after n r → parsed_held text after n r ≡ parse (tokens text)
unfolding parse
parse-lexed text before after n r told k made =
    let count : n ≡ length (tokens text) = k.count ∙ sym (stored-count text (tokens-lexed text (length before) n told).closed) in
    answers-right made.answer (lexed-enough text before n told k) ∙ ap (parse_from n) (lexed-range text before n told k) ∙ ap (λ c. parse_from c (numbered 0 (tokens text))) count
