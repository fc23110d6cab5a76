pub mod Faults
pub mod FaultText
pub mod Globals
pub mod Limited
pub mod Pages
pub mod Prepared
pub mod Shown
