pub mod Close
pub mod CloseOf
pub mod Finish
pub mod Halves
pub mod Laws
pub mod Rounds
pub mod Steps
pub mod Walks
