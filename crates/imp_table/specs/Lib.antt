pub mod Tabled
pub mod Changes
pub mod Pages
pub mod Views
pub mod Checks
