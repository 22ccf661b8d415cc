-- The definitions of the lexer, to be read in this order.
pub mod Base
pub mod Tables
pub mod Refusals
pub mod Utf8
pub mod Classes
pub mod Tokens
pub mod Places
pub mod Words
pub mod Lexing
pub mod Scanning
pub mod ByteBlocks
pub mod PlainWords
pub mod Positions
pub mod Stored
pub mod Bytes
pub mod Run
