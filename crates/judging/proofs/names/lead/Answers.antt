-- The function `lead` meets its contract, byte by byte. Assumes nothing.
use Rattle.lexer.specs.Base.{pick}
use Rattle.lexer.specs.Utf8.{after_lead, follow}
use Rattle.std.proofs.Common.{arith}
use Rattle.std.proofs.lemmas.Bool.Decides.{nat_tests}
use Rattle.judging.proofs.names.lead.Goals as goal

pub returns-in-224 : goal.returns-in-224
unfolding after_lead follow pick
returns-in-224 c = (grind (arith, nat_tests), grind (arith, nat_tests), grind (arith, nat_tests), grind (arith, nat_tests))

pub returns-in-237 : goal.returns-in-237
unfolding after_lead follow pick
returns-in-237 c = (grind (arith, nat_tests), grind (arith, nat_tests), grind (arith, nat_tests), grind (arith, nat_tests))

pub returns-in-240 : goal.returns-in-240
unfolding after_lead follow pick
returns-in-240 c = (grind (arith, nat_tests), grind (arith, nat_tests), grind (arith, nat_tests), grind (arith, nat_tests))

pub returns-in-244 : goal.returns-in-244
unfolding after_lead follow pick
returns-in-244 c = (grind (arith, nat_tests), grind (arith, nat_tests), grind (arith, nat_tests), grind (arith, nat_tests))

pub returns-in-0-to-223 : goal.returns-in-0-to-223
unfolding after_lead follow pick
returns-in-0-to-223 c = (grind (arith, nat_tests), grind (arith, nat_tests), grind (arith, nat_tests), grind (arith, nat_tests))

pub returns-in-0-to-239 : goal.returns-in-0-to-239
unfolding after_lead follow pick
returns-in-0-to-239 c = (grind (arith, nat_tests), grind (arith, nat_tests), grind (arith, nat_tests), grind (arith, nat_tests))

pub returns-in_default : goal.returns-in_default
unfolding after_lead follow pick
returns-in_default c = (grind (arith, nat_tests), grind (arith, nat_tests), grind (arith, nat_tests), grind (arith, nat_tests))
