pub mod Answers
pub mod ClosedMatrices
pub mod Ends
pub mod Equations
pub mod Far
pub mod Laws
pub mod Steps
pub mod Triangles
