-- What the rows of a matrix mean, as the code holds them.
pub mod RowShape
pub mod Taken
pub mod WholeSets
pub mod Lines
pub mod OrderHeld
pub mod RowIndex
pub mod SequentialShape
pub mod PagesHeld
pub mod RowsHeld
