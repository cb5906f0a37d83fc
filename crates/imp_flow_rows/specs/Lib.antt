pub mod Near
pub mod Shapes
pub mod Entered
pub mod NodeRows
pub mod Inputs
