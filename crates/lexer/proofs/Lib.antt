-- What other crates may cite: laws of tests, lists and tables, and of what a text's tokens are.
pub mod Basics
pub mod KindTags
pub mod LabelLaws
pub mod LexedAnswers
pub mod ListLaws
pub mod NextBytes
pub mod OptionLaws
pub mod PlainRuns
pub mod RangeLaws
pub mod SmallBytes
pub mod StepLaws
pub mod StoredLaws
pub mod TableLaws
pub mod TextUtf8
pub mod TextWalks
pub mod TokenSizes
pub mod TokensClean
pub mod WordsTold
pub mod Yielded
-- What the proofs of this crate alone rest on.
mod AsciiRuns
mod BlankBytes
mod ByteBlocks
mod Cases
mod ClassLaws
mod CommentBlocks
mod EndTurns
mod FirstBytes
mod MarkLaws
mod PlaceLaws
mod QuotedBytes
mod RunsAlike
mod ScanLaws
mod StepSymbols
mod Storing
mod SymbolLaws
mod SymbolTags
mod TextItems
mod TextReturns
mod TokenParts
mod Utf8Checking
mod WordBlocks
mod WordBytes
mod WordEnds
