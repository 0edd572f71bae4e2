pub mod Cases
pub mod Laws
pub mod Refused
pub mod Fine
pub mod Lists
pub mod Said
