pub mod Alone
pub mod Seats
pub mod Calls
pub mod RightCalls
pub mod Closed
pub mod Closing
pub mod SeatCalls
