-- What the proofs of this crate rest on, and what other crates may cite.
pub mod AnswerLaws
pub mod BlockLaws
pub mod DataLaws
pub mod GivenLaws
pub mod LabelKindLaws
pub mod TaxaLaws
