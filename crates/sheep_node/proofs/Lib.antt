pub mod Numbers
pub mod StepLaws
pub mod AwaitedEntryLaws
pub mod RequestMarks
pub mod MarkedAskers
pub mod StartLaws
pub mod AwaitedWorks
pub mod OneWorkParts
pub mod OneWorkChanges
pub mod ReachedSteps
pub mod EndedWorks
pub mod StepChain
pub mod StepReplies
pub mod MessageNumbers
pub mod NumberChanges
pub mod OwnEntryChanges
pub mod PuttableEntries
pub mod QueueChanges
pub mod QueueLengths
pub mod SoleParts
pub mod SoleCommands
pub mod SessionViews
pub mod WantedSteps
pub mod WantedParts
pub mod WantedChanges
pub mod SeenCourses
pub mod ChangeWalk
pub mod CourseWalk
pub mod DrivenChanges
pub mod TurnChanges
pub mod RefusedCourses
pub mod RequestChanges
pub mod PeerLog
pub mod StepEffects
pub mod StepResults
pub mod LogLaws
pub mod ReadLogs
mod RefusalLaws
pub mod ValidityChanges
pub mod ValidSteps
pub mod MessageCounts
pub mod ValidChanges
pub mod ValidLaws
pub mod AskedNodes
pub mod NodeLaws
pub mod OutsideAskLaws
mod MayTestLaws
pub mod PlacedPeers
pub mod StepStates
pub mod ReceivedInputs
pub mod RefusedEnds
pub mod GivenNumbers
pub mod GoingOn
mod CheckWriteLemmas
pub mod BeginningWorks
pub mod InSteps
pub mod TurnSteps
pub mod CourseSteps
mod EntryTestLemmas
mod KeptLogs
mod LogsRead
pub mod KnownSpecs
pub mod BegunRecoveries
pub mod RecoverySteps
pub mod RecoveredNodes
mod NewestEpochs
mod EntryParts
pub mod ToldRequests
pub mod GuestSteps
pub mod SoundSteps
pub mod SoundCommands
pub mod KnownChains
pub mod SoundChanges
pub mod SoundLaws
pub mod AttemptRange
pub mod SpelledSends
mod LineParts
pub mod LineChanges
