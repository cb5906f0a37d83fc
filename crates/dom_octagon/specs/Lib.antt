pub mod Added
pub mod Assigned
pub mod Checked
pub mod GoodForms
pub mod Lists
