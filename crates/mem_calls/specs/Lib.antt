pub mod CallFailures
pub mod CallPlans
pub mod PlansOf
