pub mod Count
pub mod Host
pub mod MemShelf
pub mod MemSink
pub mod Shelf
pub mod Sink
