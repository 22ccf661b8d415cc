-- The function `put_character` meets its contract: with neither a label nor state labels nothing has room, or all has; else its lines, one behind another. Assumes nothing.
use Rattle.emit.proofs.PutLaws.{puts-as, puts_then}
use Rattle.lexer.proofs.Basics.{and_right}
use Rattle.lexer.specs.Base.{bytes}
use Rattle.reading.proofs.CharacterPuts.{character-lines, plain-past, plain-put}
use borrow.Author.Tests.{leb-true}
use lib.Dec.{eqb}
use mathlib.Core.Bool.{◌&&◌}
use Rattle.reading.proofs.characters.put_character.Goals as goal

pub returns-then-plain-buffer : goal.returns-then-plain-buffer
returns-then-plain-buffer c =
    let a = c.args in
    let past = leb-true _ _ (and_right (eqb a.label 0 && eqb a.states 0) _ c.if-plain-buffer.true) in
    plain-past _ _ _ _ _ _ _ c.if-plain-buffer.true _ _ _ _ past c.plain_size.ensures.value c.further.ensures

pub returns-then-plain-has_room : goal.returns-then-plain-has_room
returns-then-plain-has_room c = plain-put _ _ _ _ _ _ _ c.if-plain-has_room.true c.put_plain.ensures

pub returns : goal.returns
unfolding bytes
returns c =
    puts-as (puts_then c.put_number-m.ensures (puts_then c.put_label-m.ensures (puts_then c.put_order-m.ensures c.put_state_labels.ensures)))
    (λ behind. character-lines _ _ _ _ _ _ behind)
