-- The function `character_lines` meets its contract: what is judged of the characters that are left is judged of all. Assumes nothing.
use Rattle.judging.proofs.CharactersTold.{CharactersLeft}
use Rattle.judging.proofs.characters.character_lines.Given as goal

abbrev pub invariant-loop-k : goal.invariant-loop-k
invariant-loop-k l = CharactersLeft l.source l.i l.k-end l.most l.at l.labelled l.ordered l.k
