-- The function `whole_part` meets its contract. Assumes nothing.
use Rattle.assumptions.proofs.PartLaws.{whole-told}
use Rattle.lexer.proofs.NextBytes.{front-left}
use Rattle.lexer.specs.Stored.{word_of}
use mathlib.Core.Path.{sym}
use Rattle.assumptions.proofs.parts.whole_part.Goals as goal

pub returns : goal.returns
unfolding word_of
returns c =
    λ h.
    let text = front-left _ _ _ c.text_start-c.ensures in
    rw (c.punct.ensures, c.text_is_byte.ensures, c.character.ensures, c.text_is_byte-dot.ensures, c.quoted_at-quoted.ensures, c.number-n.ensures, text, c.start_of-start.ensures)
    (sym (whole-told _ _ h))
