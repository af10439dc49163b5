pub mod HeaderLemmas
pub mod RequestLemmas
pub mod ReplyLemmas
