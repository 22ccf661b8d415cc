-- What the proofs of this crate rest on, and what other crates may cite.
pub mod HashLaws
pub mod FillingLaws
pub mod LetterLaws
pub mod TrieLaws
pub mod ReachLaws
pub mod GrowthLaws
pub mod PathLaws
pub mod EnteringLaws
pub mod SoughtLaws
