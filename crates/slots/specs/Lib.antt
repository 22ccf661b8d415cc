-- What a table of names means, as work memory holds it.
pub mod Hashes
pub mod Filling
pub mod Seeking
pub mod Trie
pub mod Entering
