-- What the proofs of this crate rest on, and what other crates may cite.
pub mod DecimalMade
pub mod DigitsStored
pub mod PutLaws
pub mod Delivery
