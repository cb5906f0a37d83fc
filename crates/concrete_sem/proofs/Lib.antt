pub mod Numbers
pub mod Keeps
pub mod Flat
pub mod Programs
pub mod Forms
