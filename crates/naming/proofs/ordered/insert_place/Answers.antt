-- The function `insert_place` meets its contract. Assumes nothing.
use Rattle.naming.proofs.InsertLaws.{place_put}
use Rattle.naming.proofs.ordered.insert_place.Goals as goal

pub returns : goal.returns
returns c =
    let copied = c.copy_within.ensures in
    place_put _ _ _ c.requires.1 c.requires.0 _ copied.len copied.by_index.0 copied.by_index.1 _
