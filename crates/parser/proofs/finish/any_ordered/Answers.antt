-- The function `any_ordered` meets its contract. Assumes nothing.
use Rattle.parser.proofs.MapFits.{fitting, types-room}
use Rattle.parser.proofs.OrderedLaws.{typed-ordered, untyped-ordered}
use Rattle.parser.proofs.finish.any_ordered.Goals as goal

pub types_place-at-requires : goal.types_place-at-requires
types_place-at-requires c =
    let f = fitting _ _ _ _ _ c.requires in
    (f.few_tokens, f.few_lines, f.few_taxa, f.few_characters)

pub has_ordered-requires : goal.has_ordered-requires
has_ordered-requires c = types-room _ _ _ _ _ c.requires _ c.types_place-at.ensures

pub returns-then-h : goal.returns-then-h
returns-then-h c = λ text. typed-ordered text _ _ _ _ c.default_ordered-ordered.ensures _ _ c.if-h.true c.types_place-at.ensures c.has_ordered.ensures

pub returns : goal.returns
returns c = λ text. untyped-ordered text _ _ _ _ c.default_ordered-ordered.ensures c.if-h.false
