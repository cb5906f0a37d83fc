pub mod OverlayLemmas
pub mod FallingLemmas
pub mod PageLemmas
pub mod ExchangeLemmas
pub mod ChangeLemmas
pub mod ViewLemmas
