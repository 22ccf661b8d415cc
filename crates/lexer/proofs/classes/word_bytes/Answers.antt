-- The function `word_bytes` meets its contract: the table computes to what the definition gives for each byte. Assumes nothing.
use Rattle.lexer.specs.Base.{pick}
use Rattle.lexer.specs.ByteBlocks.{is_plain}
use Rattle.lexer.specs.PlainWords.{is_alone, is_ends, word_byte}
use Rattle.lexer.specs.Tables.{tabulated}
use mathlib.Core.Path.{refl}
use Rattle.lexer.proofs.classes.word_bytes.Goals as goal

pub returns : goal.returns
unfolding tabulated word_byte is_plain is_ends is_alone pick
returns c = rw (c.fill.ensures.after (λ y e. e), c.fill-2.ensures.after (λ y e. e), c.fill-3.ensures.after (λ y e. e)) refl
