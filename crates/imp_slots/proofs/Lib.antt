pub mod Lists
pub mod Distinct
