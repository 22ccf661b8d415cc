-- The definitions of the calls for programs in other languages.
pub mod Exports
