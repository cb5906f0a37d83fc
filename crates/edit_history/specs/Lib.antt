pub mod After
pub mod History
