-- The function `typeset_step` meets its contract: the types are stored where there is room for them. Assumes nothing.
use Rattle.parser.proofs.AssumptionLaws.{typeset-made, typeset-short}
use Rattle.parser.proofs.RoomLaws.{roomy}
use mathlib.Core.Path.{sym, ◌∙◌}
use native.Mathlib.Nat.{le_trans}
use Rattle.parser.proofs.types.typeset_step.Goals as goal

pub parse_typeset-answer-requires : goal.parse_typeset-answer-requires
parse_typeset-answer-requires c =
    let room = roomy c.args.text.now _ _ c.requires.0 c.args.s.matrix _ _ (sym c.types_room.ensures ∙ c.in-Some.is) in
    (le_trans c.requires.2 room.behind, room.room)

pub returns : goal.returns
returns c =
    λ e.
    typeset-made _ _ _ _ _ _ _ _ c.requires.0 c.requires.2 e _ _ _ (sym c.types_room.ensures ∙ c.in-Some.is)
    c.parse_typeset-answer.ensures.front c.parse_typeset-answer.ensures.size _ c.parse_typeset-answer.ensures.answer _ c.after_typeset.ensures.step c.after_typeset.ensures.placed

pub returns-in_default : goal.returns-in_default
returns-in_default c =
    λ e.
    typeset-short _ _ _ _ _ _ _ _ c.requires.0 c.requires.2 e (sym c.types_room.ensures ∙ c.in_default.is)
