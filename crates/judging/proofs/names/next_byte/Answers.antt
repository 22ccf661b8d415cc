-- The function `next_byte` meets its contract: the byte is one that no name holds, does not go on with the character that is open, or leaves this open.
-- Assumes nothing.
use Rattle.judging.proofs.NameRests.{name-forbidden, name-broken, name-byte}
use Rattle.judging.proofs.Utf8Bytes.{open-ascii, open-lead, no_lead, open-later, no-later}
use borrow.Author.Rules.{rules}
use mathlib.Core.Path.{sym, ◌∙◌}
use Rattle.judging.proofs.names.next_byte.Goals as goal

pub returns-then-b : goal.returns-then-b
returns-then-b c = λ n w. name-forbidden _ _ n c.if-b.true ∙ sym (c.no_name.ensures n)

pub returns-then-b-lt128 : goal.returns-then-b-lt128
returns-then-b-lt128 c =
    rw c.open.ensures
    (λ n w. name-byte c.args.s c.args.b n _ (search rules) c.if-b.false (open-ascii _ _ _ _ n c.if-s-eq0.true c.if-b-lt128.true) (rw w))

pub returns-then-b-2 : goal.returns-then-b-2
returns-then-b-2 c =
    λ n w. name-broken _ _ n (no_lead _ _ _ _ n c.if-s-eq0.true c.if-b-lt128.false c.if-b-2.true) ∙ sym (c.no_name-then-b-2.ensures n)

pub returns-then-s-eq0 : goal.returns-then-s-eq0
returns-then-s-eq0 c =
    let (more, low, high, blank) = c.lead.ensures in
    λ n w.
    name-byte _ c.args.b n _ (search rules) c.if-b.false
    (rw (more, low, high) (open-lead _ _ _ _ n c.if-s-eq0.true c.if-b-lt128.false c.if-b-2.false))
    (blank ∙ rw w)

pub returns-then-b-s : goal.returns-then-b-s
returns-then-b-s c = λ n w. name-broken _ _ n (no-later _ _ _ _ n c.if-s-eq0.false c.if-b-s.true) ∙ sym (c.no_name-then-b-s.ensures n)

pub returns : goal.returns
returns c =
    rw c.open-2.ensures
    (λ n w. name-byte c.args.s c.args.b n _ (search rules) c.if-b.false (open-later _ _ _ _ n c.if-s-eq0.false c.if-b-s.false) (rw w))
