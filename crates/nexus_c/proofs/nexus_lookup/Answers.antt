-- The function nexus_lookup meets its contract: the answer of the lookup, number by number. Assumes nothing.
use Rattle.lookup.specs.Finding.{found_as}
use Rattle.record.specs.Calls.{Found, not_found}
use mathlib.Core.Path.{ap, ◌∙◌}
use Rattle.nexus_c.proofs.nexus_lookup.Goals as goal

pub returns-in-Ok : goal.returns-in-Ok
unfolding found_as
returns-in-Ok c =
    let e = c.in-Ok.ensures.told in
    record { number = ap (λ (f : Found). f.refused) e; start = ap (λ (f : Found). f.stretch.start) e; result = ap (λ (f : Found). f.stretch.size) e }

pub returns-in-Err : goal.returns-in-Err
unfolding found_as not_found
returns-in-Err c =
    let e = c.in-Err.ensures.told in
    record {
      number = c.refusal_number.ensures ∙ ap (λ (f : Found). f.refused) e;
      start = ap (λ (f : Found). f.stretch.start) e;
      result = ap (λ (f : Found). f.stretch.size) e;
    }
