pub mod Scalar
pub mod ScalarCompare
pub mod ScalarDates
