mod GivenLemmas
mod StepLemmas
mod RefusalLemmas
mod AskersKept
mod WorkLemmas
mod AskerLemmas
pub mod AskingLemmas
mod KeptMaps
pub mod MessageLemmas
pub mod AnswerLaws
pub mod SendLaws
pub mod TryLaws
pub mod PartLaws
pub mod WorkedCases
pub mod MapLaws
pub mod FailureLaws
pub mod DoneWorks
mod BeginningLemmas
pub mod LengthLaws
