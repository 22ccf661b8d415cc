-- The function `types_room` meets its contract. Assumes nothing.
use Rattle.parser.proofs.RoomLaws.{room-none, room-few, room_at, room-short}
use Rattle.parser.proofs.types.types_room.Goals as goal

pub types_place-requires : goal.types_place-requires
types_place-requires c =
    let f = room-few _ _ _ _ c.in-Some.is _ c.map_fits.ensures c.if-map_fits-h.true in
    (f.few_tokens, f.few_lines, f.few_taxa, f.few_characters)

pub returns-then-map_fits-h : goal.returns-then-map_fits-h
returns-then-map_fits-h c = room_at _ _ _ _ c.in-Some.is _ c.map_fits.ensures _ c.types_place.ensures c.if-map_fits-h.true

pub returns-in-None : goal.returns-in-None
returns-in-None c = room-none _ _ _ c.in-None.is

pub returns-else-map_fits-h : goal.returns-else-map_fits-h
returns-else-map_fits-h c = room-short _ _ _ _ c.in-Some.is _ c.map_fits.ensures c.if-map_fits-h.false
