pub mod Seats
pub mod Claims
pub mod Apart
