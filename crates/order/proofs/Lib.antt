pub mod Firsts
pub mod Laws
pub mod Listed
pub mod Lists
pub mod TestLaws
