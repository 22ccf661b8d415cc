-- The function `type_by` meets its contract. Assumes nothing.
use Rattle.std.proofs.Common.{rules, of_calls}
use Rattle.lexer.specs.Base.{option_of, bytes, pick}
use mathlib.Core.Path.{sym, ◌∙◌}
use Rattle.assumptions.proofs.assumptions.type_by.Goals as goal

pub returns-then-is_key : goal.returns-then-is_key
unfolding option_of pick bytes
returns-then-is_key g c = λ t h.
    let e = h (bytes "ORD") c.is_key.result (search (rules, of_calls, c.is_key.ensures)) in
    rw (sym e ∙ c.if-is_key.true)

pub returns-then-is_key-2 : goal.returns-then-is_key-2
unfolding option_of pick bytes
returns-then-is_key-2 g c = λ t h.
    let e = h (bytes "ORD") c.is_key.result (search (rules, of_calls, c.is_key.ensures)) in
    let f = h (bytes "UNORD") c.is_key-2.result (search (rules, of_calls, c.is_key-2.ensures)) in
    rw (sym e ∙ c.if-is_key.false, sym f ∙ c.if-is_key-2.true)

pub returns : goal.returns
unfolding option_of pick bytes
returns g c = λ t h.
    let e = h (bytes "ORD") c.is_key.result (search (rules, of_calls, c.is_key.ensures)) in
    let f = h (bytes "UNORD") c.is_key-2.result (search (rules, of_calls, c.is_key-2.ensures)) in
    rw (sym e ∙ c.if-is_key.false, sym f ∙ c.if-is_key-2.false)
