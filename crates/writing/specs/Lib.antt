-- What putting the written form of a record means.
pub mod FormPut
pub mod Signs
pub mod CellsPut
pub mod QuotedNames
pub mod RowsPut
pub mod CharacterLines
pub mod FormParts
