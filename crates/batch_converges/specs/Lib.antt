pub mod Converges
