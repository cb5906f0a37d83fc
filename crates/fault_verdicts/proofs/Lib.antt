pub mod Judged
pub mod Items
pub mod Fitted
pub mod Soundness
pub mod Pointed
