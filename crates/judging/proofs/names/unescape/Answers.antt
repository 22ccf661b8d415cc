-- The function `unescape` meets its contract. Assumes nothing.
use Rattle.judging.specs.NameRest.{unescape}
use Rattle.lexer.specs.Base.{pick}
use mathlib.Core.Path.{◌≡◌, refl}
use native.Mathlib.Omega.{arith}
use borrow.Author.Tests.{ne_eqb}
use Rattle.judging.proofs.names.unescape.Goals as goal

pub returns-in-48 : goal.returns-in-48
unfolding unescape pick
returns-in-48 c =
    record {
      none = λ e. absurd (cc);
      some = λ d e. let same : 10 ≡ d = cc in rw (← same, c.in-48.is) (refl, λ z. omega arith);
    }

pub returns-in-49 : goal.returns-in-49
unfolding unescape pick
returns-in-49 c =
    record {
      none = λ e. absurd (cc);
      some = λ d e. let same : 92 ≡ d = cc in rw (← same, c.in-49.is) (refl, λ z. omega arith);
    }

pub returns-in_default : goal.returns-in_default
unfolding unescape pick
returns-in_default c =
    record {
      none = λ _. rw (ne_eqb c.args.b 48 (λ e. omega arith), ne_eqb c.args.b 49 (λ e. omega arith));
      some = λ d e. absurd (cc);
    }
