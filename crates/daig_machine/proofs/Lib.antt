pub mod Lists
pub mod Filling
pub mod Asking
pub mod Moving
pub mod Undoing
