-- The function `ten_plain` meets its contract, test by test. Assumes nothing.
use Rattle.reading.proofs.TenPlain.{ten-odd, ten-short, ten-typed, ten-untyped}
use Rattle.reading.proofs.plain.ten_plain.Goals as goal

pub returns-then-k-ne0 : goal.returns-then-k-ne0
returns-then-k-ne0 c = ten-odd _ _ _ _ _ c.if-k-ne0.true

pub returns-then-characters-k : goal.returns-then-characters-k
returns-then-characters-k c = ten-short _ _ _ _ _ c.if-k-ne0.false c.if-characters-k.true

pub returns-then-not-typed : goal.returns-then-not-typed
returns-then-not-typed c =
    ten-untyped _ _ _ _ _ c.if-k-ne0.false c.if-characters-k.false c.ten_same.ensures c.ten_same-2.ensures c.if-not-typed.true

pub returns : goal.returns
returns c =
    ten-typed _ _ _ _ _ c.if-k-ne0.false c.if-characters-k.false c.ten_same.ensures c.ten_same-2.ensures c.if-not-typed.false c.ten_same-3.ensures
