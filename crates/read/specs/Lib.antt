-- What is promised of the read call.
pub mod Call
