-- Pieces of a record, as they are put from work memory.
pub mod CharactersHeld
pub mod TenPlain
pub mod Pieces
pub mod CodedCells
pub mod ShortCells
pub mod RowLines
pub mod RowWalk
pub mod RecordPut
pub mod RecordSizes
