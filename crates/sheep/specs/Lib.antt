pub mod Status
pub mod Reading
pub mod ToldRun
pub mod Answer
pub mod PrintedReplies
pub mod PrintedReads
pub mod Outcome
pub mod Live
