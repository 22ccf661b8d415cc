-- What the proofs of this crate rest on.
mod CellPut
mod EntryPuts
mod FormLaws
mod FormatLaws
mod LinePlaces
mod MembersPut
mod PlainCharacters
mod PutWalks
mod QuotedBytes
mod RowPut
mod RowsLaws
mod SignsRead
mod SymbolsTaken
