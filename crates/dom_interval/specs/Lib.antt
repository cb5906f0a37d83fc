pub mod View
pub mod Lists
pub mod Nearest
