use Rattle.std.specs.Prelude.{Some, None, Option}
use Prim.Native.Nat.{ℕ, ◌-◌}
use Rattle.lexer.proofs.NextBytes.{yielded}
use Rattle.lexer.proofs.PlainRuns.{run-left}
use Rattle.lexer.proofs.Yielded.{YieldsByte}
use Rattle.lexer.specs.Bytes.{left, next_item, run_behind}
use Rattle.lexer.specs.declared.Cursor.{Cursor}
use Rattle.matrix.proofs.CellWalk.{Coding, coding-start, coding-turn, coding-wrong, coding-end, run-coding, run-wrong}
use Rattle.matrix.specs.RowShape.{coded}
use lib.ListN.{take, drop}
use mathlib.Core.Bool.{Bool}
use mathlib.Core.List.{List}
use mathlib.Core.Path.{◌≡◌, refl, sym, ◌∙◌}
use borrow.Author.Rules.{rules}
use native.Mathlib.Omega.{arith}
use Rattle.matrix.proofs.cells.word_cells.Goals as goal

-- Behind the run that a turn passes all comes to what it did.
ran : {text codes : List ℕ} {start n : ℕ} {states : Bool} {c d : Cursor} {r : Option (ℕ × Bool)}
    → Coding text codes start n states c → d ≡ run_behind text c → r ≡ coded codes n states (take (d.at - c.at) (drop c.at text))
    → {m : ℕ} {all : Bool} → r ≡ Some (m, all) → Coding text codes start m all d
ran {text} {codes} {start} {n} {states} {c} {d} {r} k b e {m} {all} s =
    run-coding text codes start n states c d k (run-left text c d b) r e m all s

-- The byte that a turn read is the first of what was left behind the run.
read : {text : List ℕ} (c : Cursor) {r : Option (ℕ × Cursor)} → r ≡ next_item text c → {b : ℕ} {d : Cursor} → r ≡ Some (b, d) → YieldsByte text c.at (left text c) b d
read {text} c {r} e {b} {d} i = (yielded text c r e).byte b d i

pub loop-k-init : goal.loop-k-init
loop-k-init c = coding-start _ _ _ _ c.text_start-c.ensures

pub run_cells-requires : goal.run_cells-requires
run_cells-requires c =
    let p = run-left _ _ _ c.plain_run-run.ensures in
    (c.loop-k.invariant.passed, p.ahead, p.within)

pub returns-then-code : goal.returns-then-code
returns-then-code c =
    coding-wrong _ _ _ _ _ _ (ran c.loop-k.invariant c.plain_run-run.ensures c.in_ok-k.ensures refl) _ _
    (read _ c.next_byte.ensures c.in-Some.is) (sym c.entry_of-code.ensures ∙ c.if-code.true)

pub overflow_add-n : goal.overflow_add-n
overflow_add-n c =
    let k = read _ c.next_byte.ensures c.in-Some.is in
    omega (arith, k.ahead, k.within, (ran c.loop-k.invariant c.plain_run-run.ensures c.in_ok-k.ensures refl).passed)

pub loop-k-smaller : goal.loop-k-smaller
loop-k-smaller c =
    let k = read _ c.next_byte.ensures c.in-Some.is in
    omega (arith, k.ahead, k.within, (run-left _ _ _ c.plain_run-run.ensures).ahead)

pub loop-k-preserved : goal.loop-k-preserved
loop-k-preserved c =
    rw c.entry_of-code.ensures
    (coding-turn _ _ _ _ _ _ (ran c.loop-k.invariant c.plain_run-run.ensures c.in_ok-k.ensures refl) _ _
    (read _ c.next_byte.ensures c.in-Some.is) (λ e. c.if-code.false (c.entry_of-code.ensures ∙ e)))

pub returns-in_default : goal.returns-in_default
returns-in_default c =
    let none : c.next_byte.result ≡ None = search rules in
    coding-end _ _ _ _ _ _ (ran c.loop-k.invariant c.plain_run-run.ensures c.in_ok-k.ensures refl) ((yielded _ _ _ c.next_byte.ensures).end none)

pub returns-in_err-k : goal.returns-in_err-k
returns-in_err-k c =
    c.from_residual.ensures ∙ run-wrong _ _ _ _ _ _ _ c.loop-k.invariant (run-left _ _ _ c.plain_run-run.ensures) _ c.in_err-k.ensures refl
