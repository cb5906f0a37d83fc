pub mod Ends
pub mod Sums
pub mod Corners
pub mod Products
pub mod Quotients
pub mod Remainders
pub mod Lattice
