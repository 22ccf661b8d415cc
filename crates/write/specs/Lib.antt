-- What is promised of the write call.
pub mod Call
