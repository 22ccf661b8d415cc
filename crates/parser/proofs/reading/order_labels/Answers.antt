-- The function `order_labels` meets its contract: the order, then the labels. Assumes nothing.
use Rattle.std.proofs.lemmas.Result.{err_from_is_err_and}
use Rattle.parser.proofs.LabelsStored.{fits-order, labels-few, labels-room, labels-stored, order-refused}
use Rattle.parser.proofs.reading.order_labels.Goals as goal

pub taxa_order-requires : goal.taxa_order-requires
taxa_order-requires c = (fits-order _ _ _ _ _ c.requires.0, c.requires.1)

pub labels_place-at-requires : goal.labels_place-at-requires
labels_place-at-requires c = labels-few _ _ _ _ _ c.requires.0

pub apply_labels-requires : goal.apply_labels-requires
apply_labels-requires c =
    labels-room _ _ _ _ _ c.requires.0 _ _ _ _ c.taxa_order.ensures.size c.labels_place-at.ensures c.requires.2 c.requires.3

pub returns : goal.returns
returns c =
    labels-stored _ _ _ _ _ _ _ _ _ _ c.in_ok-taxa_order.ensures _ c.apply_labels.auto.work _ c.labels_place-at.ensures c.apply_labels.ensures.front c.requires.2 _ c.apply_labels.ensures.labelled

pub returns-in_err-taxa_order : goal.returns-in_err-taxa_order
returns-in_err-taxa_order c =
    let p = err_from_is_err_and c.from_residual.result c.from_residual.ensures.1 in
    rw (p.1, p.2) (order-refused _ _ _ _ _ _ _ _ _ _ _ _ c.in_err-taxa_order.ensures)
