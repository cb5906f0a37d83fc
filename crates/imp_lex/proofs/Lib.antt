pub mod Digits
pub mod Lengths
pub mod Fronts
pub mod Answered
pub mod Spelled
pub mod Laws
