pub mod Rising
pub mod Bits
pub mod Below
