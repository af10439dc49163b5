pub mod StepLemmas
pub mod TableLemmas
pub mod WorkLemmas
mod IdLemmas
mod UsedIds
mod MovedSteps
mod TagLemmas
mod CourseLemmas
mod CheckRefusals
mod DiskChanges
