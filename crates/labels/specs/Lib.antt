-- What labels mean, as the code holds them.
pub mod LabelSlots
pub mod LabelEntries
pub mod LabelLists
