pub mod Superset
