mod EntryLemmas
pub mod NameOrder
mod NodeSetLemmas
mod EndLemmas
mod EndTable
mod WholeWire
mod WireChanges
mod WireReading
mod SenderEdits
