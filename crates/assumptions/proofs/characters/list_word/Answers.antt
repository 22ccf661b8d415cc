-- The function `list_word` meets its contract. Assumes nothing.
use Prim.Native.Nat.{◌<◌}
use Rattle.assumptions.proofs.DigitWords.{number-follows, told-spells}
use Rattle.assumptions.proofs.ListWalks.{whole-follows}
use Rattle.assumptions.specs.ToldWords.{told_number}
use Rattle.assumptions.proofs.PartLaws.{other-word}
use Rattle.lexer.specs.Stored.{word_of}
use Rattle.lexer.specs.Words.{is_word}
use lib.ListN.{drop}
use mathlib.Core.Path.{refl}
use native.Mathlib.Omega.{arith}
use Rattle.assumptions.proofs.characters.list_word.Goals as goal

pub returns-then-n-ne0-clause-answer : goal.returns-then-n-ne0-clause-answer
unfolding word_of
returns-then-n-ne0-clause-answer c =
    let turn = c.part_turn.ensures in
    let value = c.word_number-n.ensures in
    let s = c.args in
    let start = c.start_of-start.result in
    let n : 0 < told_number 0 (drop start s.text.now) = omega (arith, value, c.if-n-ne0.true) in
    let spells = rw (← value, c.start_of-start.ensures) at (told-spells s.text.now start n) in
    λ rs ts g. number-follows _ _ _ spells _ _ _ _ _ (turn.answer _ (c.number_part-part.ensures _ refl spells) rs ts g)

pub cut_word-requires-clause-i_value : goal.cut_word-requires-clause-i_value
unfolding word_of is_word
cut_word-requires-clause-i_value c = rw (← c.start_of-start.ensures, ← c.kind_at.ensures, c.in-Word.is)

pub returns : goal.returns
unfolding word_of
returns c =
    let turn = c.part_turn-2.ensures in
    let none = rw (c.kind_at.ensures, c.start_of-start.ensures) at (other-word c.kind_at.result c.in_default.not-Word) in
    record { front = turn.front; answer = λ rs ts g. whole-follows _ _ _ _ _ _ _ none (turn.answer _ (c.whole_part-part.ensures none) rs ts g) }
