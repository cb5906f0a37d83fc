mod Numbered
mod Continued
mod Places
mod Refused
mod SmallTexts
mod SmallEdits
mod Carried
mod FineLemmas
pub mod FineTurns
pub mod Sources
mod Picked
mod SoundTurns
mod Quiet
pub mod Histories
pub mod Overs
