pub mod Rising
pub mod Found
