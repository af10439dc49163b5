pub mod Ledger
pub mod Legal
pub mod CheckerState
pub mod CheckerLedger
pub mod ReadableBytes
pub mod Changes
