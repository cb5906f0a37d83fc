pub mod Opening
pub mod Closing
pub mod Beginning
