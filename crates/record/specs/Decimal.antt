-- Decimal numbers, without leading zeros.
use Rattle.std.specs.Prelude.{ℕ, zero, suc, ◌+◌, ◌/◌, ◌%◌, ltb, List, [], ◌∷◌}
use Rattle.std.proofs.Math.Option.{Option, none, some}
use Rattle.lexer.specs.Base.{pick, same, byte}
use Rattle.lexer.specs.Words.{digits}

unfoldable pub digit : ℕ → ℕ
digit n = byte "0" + n % 10

-- The digits of a number in front of others; the first argument bounds how many there can be.
unfoldable pub decimal_from : ℕ → ℕ → List ℕ → List ℕ
decimal_from zero n behind = digit n ∷ behind
decimal_from (suc k) n behind =
    let this = digit n ∷ behind in
    let more = decimal_from k (n / 10) this in
    pick (ltb n 10) this more

unfoldable pub decimal : ℕ → List ℕ
decimal n = decimal_from n n []

-- The number that a text spells, if it spells it without a leading zero.
unfoldable pub undecimal : List ℕ → Option ℕ
undecimal text = let n = digits 0 text in pick (same (decimal n) text) (some n) none
