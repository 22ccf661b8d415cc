-- The function `labelled_by` meets its contract. Assumes nothing.
use Rattle.block.specs.Blocks.{same_labelling}
use Rattle.commands.proofs.LabelKindLaws.{among-held, same_kind}
use Rattle.labels.specs.LabelLists.{listed}
use Rattle.std.proofs.Common.{rules, tests}
use Rattle.std.proofs.lemmas.Iterator.{YieldsList-from_slice, YieldsList-from_take}
use Rattle.std.proofs.lemmas.Iterator.Search.{any_from_yields_List}
use Rattle.std.specs.List.{list_any}
use lib.ListN.{take}
use mathlib.Core.Path.{◌≡◌, ◌∙◌}
use Rattle.commands.proofs.data.labelled_by.Goals as goal

pub returns : goal.returns
returns c =
    let told : c.any.result ≡ list_any (λ x. same_labelling c.args.l x.what) (take c.args.ls.count (listed c.args.ls)) = any_from_yields_List (λ x. same_labelling c.args.l x.what) _ _ c.any.result c.any.ensures.ran (YieldsList-from_take c.args.ls.count (YieldsList-from_slice (listed c.args.ls) (cc)) (cc)) (λ x b q k. search (rules, tests, same_kind)) in
    λ text work. told ∙ among-held text work _ _
