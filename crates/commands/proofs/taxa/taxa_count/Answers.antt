-- The function `taxa_count` meets its contract. Assumes nothing.
use Rattle.block.specs.Outcome.{done, then}
use Rattle.commands.proofs.TaxaLaws.{count-more, count-absent, count-alone}
use Rattle.commands.specs.StateHeld.{stepped, phase_of, names_in}
use Rattle.lexer.specs.Stored.{word_of}
use mathlib.Core.Path.{ap}
use Rattle.commands.proofs.taxa.taxa_count.Goals as goal

pub returns-then-d-clause-step : goal.returns-then-d-clause-step
unfolding stepped then word_of
returns-then-d-clause-step c =
    λ m text work. rw (count-more (word_of text work _) _ _ c.if-d.true)

pub returns-then-d-eq0-clause-step : goal.returns-then-d-eq0-clause-step
unfolding stepped then word_of
returns-then-d-eq0-clause-step c =
    let d = c.args.d in
    λ m text work. rw (count-absent (word_of text work _) _ d c.if-d.false c.if-d-eq0.true)

pub returns-clause-step : goal.returns-clause-step
unfolding stepped then phase_of names_in
returns-clause-step c =
    let d = c.args.d in
    λ m text work. rw (count-alone (word_of text work _) _ d c.if-d.false c.if-d-eq0.false) (ap done (c.in_phase.ensures.step m text work))

pub returns-clause-placed : goal.returns-clause-placed
unfolding stepped then phase_of names_in
returns-clause-placed c =
    let d = c.args.d in
    λ text front size h. c.in_phase.ensures.placed text front size h tt
