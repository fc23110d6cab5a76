pub mod SameLaws
pub mod Laws
