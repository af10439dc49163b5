pub mod QueueLemmas
pub mod RequestOrder
