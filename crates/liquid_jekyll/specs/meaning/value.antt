pub mod Texts
pub mod Lists
pub mod Numbers
pub mod Urls
