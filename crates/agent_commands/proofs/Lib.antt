pub mod Reporting
pub mod Settings
pub mod Controlling
pub mod OneLine
pub mod GrowLemmas
pub mod StandLemmas
pub mod TimeLemmas
pub mod StatusLemmas
mod DemoLemmas
pub mod FollowLemmas
pub mod FaultLemmas
pub mod AdoptLemmas
mod PartsLemmas
pub mod AuditLemmas
