pub mod Message
pub mod Entries
pub mod Senders
pub mod NodeSet
