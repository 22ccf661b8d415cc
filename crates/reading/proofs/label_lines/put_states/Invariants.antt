-- The function `put_states` meets its contract: a turn for each token, newlines passed over. The measure is what is left of them. Assumes nothing.
use Rattle.reading.proofs.FewNames.{Listing, few_names}
use Rattle.record.specs.Spell.{spell_states}
use Rattle.reading.proofs.label_lines.put_states.Given as goal

abbrev pub invariant-loop-j : goal.invariant-loop-j
invariant-loop-j l = Listing l.text l.starts l.initial.buffer l.n (spell_states (few_names l.text l.starts l.most l.i)) l.buffer l.m l.left l.j
