pub mod Parts
pub mod Cuts
pub mod Parting
pub mod PartsOf
pub mod Path
pub mod Authority
pub mod Normal
pub mod Sites
