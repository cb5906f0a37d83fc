pub mod Cases
pub mod Members
pub mod Lists
pub mod Joined
pub mod Integers
