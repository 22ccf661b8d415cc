-- What other crates may cite.
pub mod LineLaws
pub mod LikeLaws
pub mod EscapeLike
pub mod RowLaws
-- What the proofs of this crate alone rest on.
mod BeforeLaws
mod EnteredRows
mod EntryLaws
mod InsertLaws
mod JudgedLaws
mod OrderLaws
mod OrderedRows
mod SiftLaws
mod SiftedRows
