-- The definitions of the record, to be read in this order: from a reading to its record and back, its written form, the lookup, the calls, the program.
pub mod Decimal
pub mod Spell
pub mod Unspell
pub mod Form
pub mod Lookup
pub mod Calls
pub mod Program
pub mod Demands
pub mod Run
pub mod Starred
