pub mod Silent
pub mod Inner
