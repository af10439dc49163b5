pub mod IdLemmas
pub mod HeadLemmas
pub mod AskLemmas
pub mod SayLemmas
pub mod RowLemmas
