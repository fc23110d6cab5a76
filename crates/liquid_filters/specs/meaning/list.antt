pub mod Lists
pub mod Keys
pub mod Entries
pub mod Choices
pub mod DecimalSums
pub mod Sums
pub mod Searches
pub mod Tests
