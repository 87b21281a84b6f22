pub mod Buckets
pub mod FilterRows
