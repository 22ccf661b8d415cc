-- The function `enter_at` meets its contract. Assumes nothing.
use Rattle.lexer.specs.Stored.{word_of}
use Rattle.slots.proofs.EnteringLaws.{window-within, name_set, name-put}
use Rattle.slots.proofs.FillingLaws.{free_none}
use native.Mathlib.Omega.{arith}
use Rattle.slots.proofs.filling.enter_at.Goals as goal

pub offset_bounds-work-p : goal.offset_bounds-work-p
offset_bounds-work-p c =
    omega (arith, window-within c.args.table.end c.args.from, c.window_end.ensures, c.in-Some.ensures.1, c.requires.2)

pub bounds-work-p : goal.bounds-work-p
bounds-work-p c =
    omega (arith, window-within c.args.table.end c.args.from, c.window_end.ensures, c.in-Some.ensures.1, c.requires.2)

pub returns-in-Some : goal.returns-in-Some
returns-in-Some c =
    let found = rw (c.window_end.ensures, c.requires.0) at c.in-Some.ensures in
    name_set _ _ _ _ _ c.requires.3 c.requires.1 found.0 found.1 c.requires.2

pub returns : goal.returns
unfolding word_of
returns c =
    let none = free_none _ _ _ (rw (c.window_end.ensures, c.requires.0) at c.in_default.ensures) in
    name-put _ _ _ _ _ c.requires.3 c.requires.1 none.1 none.2 (rw c.start_of-start.ensures at c.put_path.ensures)
