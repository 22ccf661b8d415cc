-- The function moved_to meets its contract. The loop's invariant: the place from here, over the bytes that are left, is the place that is asked for.
-- Assumes nothing.
use Prim.Native.Nat.{◌-◌}
use Rattle.lexer.proofs.PlaceLaws.{Placing}
use Rattle.lexer.specs.Places.{place_from}
use lib.ListN.{drop}
use Rattle.lexer.proofs.lexer_of.moved_to.Given as goal

abbrev pub invariant-loop-i : goal.invariant-loop-i
invariant-loop-i l = Placing l.text l.to 1048576 (place_from (record { line = l.line; column = l.column }) (l.to - l.at) (drop l.at l.text)) l.p l.i
