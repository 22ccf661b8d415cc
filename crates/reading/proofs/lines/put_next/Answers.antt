-- The function `put_next` meets its contract: a word, or a whole set. Assumes nothing.
use Rattle.matrix.proofs.SetLaws.{closes-told}
use Rattle.reading.specs.RowWalk.{one_word, whole_set}
use mathlib.Core.Path.{refl}
use native.Mathlib.Omega.{arith}
use Rattle.reading.proofs.lines.put_next.Goals as goal

pub returns-then-end-eq0 : goal.returns-then-end-eq0
returns-then-end-eq0 c = λ none set. one_word refl (c.put_plain.ensures none set)

pub put_whole_set-row-requires : goal.put_whole_set-row-requires
put_whole_set-row-requires c = rw c.start_of.ensures (closes-told _ _ _ _ _ _ c.set_closes-end.ensures c.if-end-eq0.false).bytes

pub overflow_add-result-2 : goal.overflow_add-result-2
overflow_add-result-2 c =
    let whole = (closes-told _ _ _ _ _ _ c.set_closes-end.ensures c.if-end-eq0.false).whole in
    omega (arith, whole.room)

pub returns : goal.returns
returns c =
    let whole = (closes-told _ _ _ _ _ _ c.set_closes-end.ensures c.if-end-eq0.false).whole in
    λ none set.
    whole_set refl
    (record {
      kind = _;
      states = _;
      words = whole;
      none = none;
      put = rw c.start_of.ensures at c.put_whole_set-row.ensures;
      opened = refl;
      top = refl;
      same = refl;
    })
