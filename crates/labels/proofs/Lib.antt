-- What the proofs of this crate rest on, and what other crates may cite.
pub mod EachLabelled
pub mod EntriesWalk
pub mod EntryTurns
pub mod LabelCommandLaws
pub mod LabelSlotLaws
pub mod LabelTurns
