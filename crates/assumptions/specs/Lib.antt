-- What types and character lists mean, as the code walks over them.
pub mod NextWord
pub mod ToldWords
pub mod TypesHeld
pub mod TypesetWalk
pub mod ListParts
pub mod ListCode
