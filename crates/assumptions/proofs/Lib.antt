-- What the proofs of this crate rest on, and what other crates may cite.
pub mod DigitWords
pub mod ItemLaws
pub mod KeyWords
pub mod ListTyped
pub mod ListWalks
pub mod NextWordLaws
pub mod PartLaws
pub mod PartWalks
pub mod RangeTyped
pub mod TypesHeldLaws
pub mod TypesetLists
pub mod TypesetWalks
pub mod VectorTypes
pub mod WordCut
