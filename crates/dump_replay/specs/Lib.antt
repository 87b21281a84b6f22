pub mod Named
pub mod Lines
pub mod Dumps
pub mod Laws
