pub mod KeptTries
pub mod HistoryLemmas
pub mod PutLemmas
pub mod CellLemmas
pub mod SeatLemmas
pub mod Outcomes
