-- What judging the parts of a record answers.
pub mod Judges
pub mod NameRest
pub mod CellModes
pub mod CellsJudged
pub mod CellRuns
pub mod Numbers
pub mod Shapes
pub mod Tells
pub mod Lists
pub mod Parts
pub mod Opening
pub mod Whole
