pub mod Laws
pub mod Queues
pub mod Rule
pub mod Runs
pub mod Views
