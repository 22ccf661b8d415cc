-- What putting bytes means.
pub mod Puts
pub mod Delivered
