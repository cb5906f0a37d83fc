pub mod Shapes
pub mod Growing
pub mod Absorbing
pub mod Tidy
pub mod Laws
pub mod ConvergenceLaws
