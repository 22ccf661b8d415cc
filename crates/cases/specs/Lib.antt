-- The definitions of the program that replays questions.
pub mod Framed
