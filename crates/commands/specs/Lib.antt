-- What the state between two commands means, and the map of work memory.
pub mod WorkMap
pub mod StateHeld
pub mod MatrixHeld
pub mod LabelKinds
pub mod StatePlaced
pub mod DataHeld
pub mod Stepping
pub mod TaxaJudged
