-- Document 01's starred cases hold of the definitions: the whole table, by computation. Assumes nothing.
use Rattle.record.specs.Run.{run_write, run_lookup}
use Rattle.record.specs.Starred.{answered, expected, ask, untouched, refusal, refused, reads, writes, data_block, characters, example, example_record, example_form, record_of, standard, starred}
use mathlib.Core.List.{map}
use mathlib.Core.Path.{◌≡◌, refl}

pub starred-cases : map answered starred ≡ map expected starred
unfolding answered expected run_write run_lookup ask untouched refusal refused reads writes data_block characters example example_record example_form record_of standard starred
starred-cases = refl
