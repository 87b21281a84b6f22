pub mod Causes
pub mod Checked
pub mod Name
