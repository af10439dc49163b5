pub mod CourseLemmas
mod PieceLemmas
mod LineLemmas
mod WriteLemmas
mod ReadLemmas
pub mod ExtentLemmas
pub mod NextLemmas
pub mod BeginLemmas
pub mod WorkLemmas
pub mod RefusalLemmas
mod WorkedRequests
