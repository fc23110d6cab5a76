pub mod loops
pub mod superset
