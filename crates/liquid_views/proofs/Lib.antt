pub mod Outlines
pub mod Lists
pub mod Maps
pub mod Pairs
pub mod HashMaps
pub mod EntryLookups
