-- MATRIX, ASSUMPTIONS and a whole text, as the code reads them.
pub mod Storing
pub mod TypesRoom
pub mod ParsedHeld
pub mod Steps
pub mod TaxaTold
pub mod Turning
