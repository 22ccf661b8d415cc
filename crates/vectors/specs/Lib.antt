-- Chosen questions with the Rust's answers.
pub mod Asked
pub mod Texts
pub mod Words
pub mod Blocks
pub mod BlockCommands
pub mod DimensionsAndTaxa
pub mod Formats
pub mod Rows
pub mod Dna
pub mod Pages
pub mod Labels
pub mod Types
pub mod CharacterLists
pub mod Forms
pub mod RefusedHeads
pub mod RefusedContents
pub mod Lookups
