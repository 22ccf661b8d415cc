-- What the proofs of this crate rest on, and what other crates may cite.
pub mod ReadLaws
