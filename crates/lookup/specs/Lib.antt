-- What is promised of the lookup call.
pub mod Finding
