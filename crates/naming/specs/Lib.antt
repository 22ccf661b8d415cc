-- What the walks over the rows of a record answer.
pub mod Rows
pub mod Lines
pub mod Entries
pub mod Order
pub mod Sifting
