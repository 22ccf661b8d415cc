use Rattle.std.specs.Prelude.{Result}
use Prim.Native.Nat.{ℕ, ◌+◌, ◌<◌}
use Rattle.lexer.proofs.SmallBytes.{Small}
use Rattle.matrix.proofs.FaultLaws.{given-on}
use Rattle.matrix.proofs.PageWalk.{Judging, Paging, paging-start, paging-page, paging-refused, paging-end}
use Rattle.matrix.specs.Lines.{RowsRoom}
use Rattle.matrix.specs.PagesHeld.{line_shape}
use Rattle.block.specs.Outcome.{outcome}
use Rattle.matrix.specs.declared.interleaved.Pages.{Pages}
use Rattle.slots.specs.Filling.{TableFits}
use Rattle.slots.specs.declared.Table.{Table}
use lib.ListN.{length}
use mathlib.Core.List.{List}
use mathlib.Core.Path.{◌≡◌}
use Rattle.matrix.proofs.interleaved.interleaved_rows.Goals as goal
use Rattle.lexer.specs.declared.Fault.{Fault}

-- A line that was judged is one of the walk.
judging : {text codes before : List ℕ} {at from to taxa characters head : ℕ} {t : Table} {work : List ℕ} {rows : ℕ} {q : Pages} {i : ℕ} {r : Result Pages (Fault ℕ)}
    → RowsRoom text before at to × TableFits (at + to) (length before) t → Paging text codes before at from to taxa characters head t work rows q i → i < to
    → Small text → outcome r ≡ line_shape text work codes at rows taxa characters q i to
    → Judging text codes before at from to taxa characters head t work rows q i r
judging h k below small lined = record { room = h.0; fits = h.1; place = k; below = below; small = small; lined = lined }

pub loop-i-init : goal.loop-i-init
loop-i-init c = paging-start c.next_line-i.ensures

pub returns : goal.returns
returns c = paging-end c.requires.0 c.loop-i.invariant c.interleaved_end.ensures c.loop-i-test.false

pub loop-i-preserved : goal.loop-i-preserved
loop-i-preserved c =
    paging-page (judging c.requires c.loop-i.invariant c.loop-i-test.true (λ b. (c.type_inv.text b).fits) c.line_turn.ensures)
    c.line_end.ensures c.next_line-next.ensures _ c.in_ok-grown.was c.put_row.ensures

pub returns-in_err-grown : goal.returns-in_err-grown
returns-in_err-grown c =
    rw (given-on _ c.from_residual.ensures.1)
    (paging-refused (judging c.requires c.loop-i.invariant c.loop-i-test.true (λ b. (c.type_inv.text b).fits) c.line_turn.ensures) _ _ c.in_err-grown.was)
