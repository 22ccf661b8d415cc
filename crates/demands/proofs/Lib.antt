-- What the proofs of this crate rest on.
mod AgainLaws
mod DataCommands
mod DeclaredOnce
mod MatrixStays
mod RightLaws
mod FormedLaws
mod ApartLaws
