-- What the calls leave: demand 2 about the read call, and demand 3 about calls one behind another, to be read in this order.
pub mod Right
pub mod Again
pub mod Compare
