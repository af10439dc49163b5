pub mod TableLemmas
mod ValueLemmas
pub mod WorkLemmas
mod CourseLemmas
mod WorkedCheck
mod OpLemmas
mod CompareLemmas
