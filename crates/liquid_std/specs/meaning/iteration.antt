pub mod Picked
pub mod Options
pub mod OptionsGiven
pub mod Scalars
pub mod Loops
pub mod Cells
pub mod Tables
