pub mod Patterns
pub mod PlaceLemmas
pub mod LineLemmas
pub mod StopLemmas
pub mod RuleLemmas
pub mod EndingLemmas
