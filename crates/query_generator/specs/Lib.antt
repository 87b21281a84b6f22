pub mod Catalog
pub mod Draws
pub mod Generated
pub mod ReadAs
pub mod Select
