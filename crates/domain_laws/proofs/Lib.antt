pub mod CheckLaws
pub mod GuardLaws
