pub mod Opening
pub mod History
pub mod Cell
pub mod Brought
pub mod Seats
pub mod LogState
