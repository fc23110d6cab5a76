pub mod Conjunction
pub mod StrictLawProofs
