pub mod AddsTokens
pub mod Signed
pub mod Text
